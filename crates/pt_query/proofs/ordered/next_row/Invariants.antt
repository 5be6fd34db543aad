use Rattle.std.proofs.Common.{ℕ, ◌+◌, ◌<◌}
use Rattle.pt_query.specs.Fresh.{IsRow}
use Rattle.pt_query.proofs.FreshWords.{IsRowTo}
use Rattle.pt_query.proofs.ordered.next_row.Given as goal

abbrev pub invariant-loop-state : goal.invariant-loop-state
invariant-loop-state l = (n : ℕ) → 0 < n → IsRow l.table n l.row → IsRowTo l.table (n + 1) l.state l.next.items
