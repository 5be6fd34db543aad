use Rattle.std.proofs.Common.{◌≡◌, ℕ, [], length}
use Rattle.pt_refine.specs.Dealing.{row_of}
use Rattle.pt_refine.proofs.chains.empty_rows.Given as goal

abbrev pub invariant-loop : goal.invariant-loop
invariant-loop l = record {
  count : length l.rows.items ≡ l.counter;
  empty : (y : ℕ) → row_of l.rows.items y ≡ [];
}
