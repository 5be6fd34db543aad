use Rattle.std.proofs.Common.{take}
use Rattle.pt_project.specs.Closing.{MarksMore}
use Rattle.pt_project.proofs.closing.mark_all.Given as goal

abbrev pub invariant-loop-state : goal.invariant-loop-state
invariant-loop-state l = MarksMore (take l.state-index l.states) l.initial.marks.items l.marks.items l.initial.open.items l.open.items
