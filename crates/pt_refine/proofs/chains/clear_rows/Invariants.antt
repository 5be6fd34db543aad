use Rattle.std.proofs.Common.{◌≡◌, ℕ, ◌<◌, [], length}
use Rattle.pt_refine.specs.Dealing.{row_of}
use Rattle.pt_refine.proofs.chains.clear_rows.Given as goal

abbrev pub invariant-loop-y : goal.invariant-loop-y
invariant-loop-y l = record {
  count : length l.rows.items ≡ length l.initial.rows.items;
  empty : (z : ℕ) → z < l.y → row_of l.rows.items z ≡ [];
}
