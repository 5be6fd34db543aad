use Rattle.std.proofs.Common.{◌≡◌, ℕ, ◌<◌, length}
use Rattle.std.specs.Prelude.{slice_index}
use Rattle.pt_sets.specs.Costs.{restricted}
use Rattle.pt_product.proofs.side.restrictions.Given as goal

abbrev pub invariant-loop-letter : goal.invariant-loop-letter
invariant-loop-letter l = record {
  count : length l.letters.items ≡ l.letter;
  each : (i : ℕ) → i < l.letter → slice_index l.letters.items i ≡ restricted l.tracks_of i;
}
