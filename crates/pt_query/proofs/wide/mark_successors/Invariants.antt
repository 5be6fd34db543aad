use Rattle.pt_query.specs.Spreads.{MarksSuccessors}
use Rattle.pt_query.proofs.wide.mark_successors.Given as goal

abbrev pub invariant-loop-letter : goal.invariant-loop-letter
invariant-loop-letter l = MarksSuccessors l.table l.state l.letter l.initial.marks.items l.marks.items
