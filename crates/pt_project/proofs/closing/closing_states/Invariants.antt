use Rattle.std.proofs.Common.{◌+◌, length, not}
use Rattle.std.specs.List.{count_by}
use Rattle.pt_project.proofs.Marks.{IsClosing}
use Rattle.pt_project.proofs.closing.closing_states.Given as goal

abbrev pub invariant-loop-state : goal.invariant-loop-state
invariant-loop-state l = IsClosing l.table l.zero l.one l.marks.items l.open.items

abbrev pub decreases-loop-state : goal.decreases-loop-state
decreases-loop-state l = count_by not l.marks.items + length l.open.items
