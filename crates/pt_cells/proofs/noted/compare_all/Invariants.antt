use Rattle.std.proofs.Common.{◌≡◌, ℕ, ◌<◌, map, slice_get}
use Rattle.pt_cells.proofs.noted.compare_all.Given as goal

abbrev pub invariant-loop-k : goal.invariant-loop-k
invariant-loop-k l = record {
  one : l.one.items ≡ l.fn.one.items;
  other : l.other.items ≡ l.fn.other.items;
  agree : (j : ℕ) → j < l.k → slice_get (map (λ w. w.1) l.fn.one.items) j ≡ slice_get (map (λ w. w.1) l.fn.other.items) j;
}
