use Rattle.pt_query.proofs.FreshWords.{IsRowTo}
use Rattle.pt_query.proofs.ordered.first_row.Given as goal

abbrev pub invariant-loop-state : goal.invariant-loop-state
invariant-loop-state l = IsRowTo l.table 1 l.state l.row.items
