use Rattle.std.proofs.Common.{◌≡◌, length, get_or}
use Rattle.pt_refine.specs.Dealing.{AreRowsOf}
use Rattle.pt_refine.proofs.halves.rows_of.Given as goal

abbrev pub invariant-loop-state : goal.invariant-loop-state
invariant-loop-state l = record {
  count : length l.rows.items ≡ l.classes.count;
  rows : AreRowsOf l.state (λ q. get_or l.classes.numbers.items q 0) l.rows.items;
}
