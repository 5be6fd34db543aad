use Rattle.pt_project.proofs.Marks.{FoundMarked}
use Rattle.pt_project.proofs.closing.marked_states.Given as goal

abbrev pub invariant-loop-state : goal.invariant-loop-state
invariant-loop-state l = FoundMarked l.marks l.state l.states.items
