use Rattle.std.proofs.Common.{◌≡◌, ℕ, ◌<◌, Some, slice_get}
use Rattle.pt_query.specs.declared.inclusion.Pair.{Pair}
use Rattle.pt_query.specs.Pairs.{IsIncluded}
use Rattle.pt_query.proofs.inclusion.are_included.Given as goal

abbrev pub invariant-loop-place : goal.invariant-loop-place
invariant-loop-place l = (j : ℕ) (p : Pair) → j < l.place → slice_get l.pairs.keys j ≡ Some p → IsIncluded l.first l.second p
