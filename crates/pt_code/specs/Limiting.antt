-- Limits on the places where searches may meet states.
use Rattle.std.specs.Prelude.{◌≡◌, ℕ, ◌+◌, ◌*◌, ◌<◌, ◌≤◌, List, length, slice_index, slice_index_or}
use Rattle.pt_code.specs.Bounding.{nothing}
use Rattle.pt_code.specs.declared.bounds.Bound.{Bound}

-- no state of an order stands below its limit
abbrev pub IsLate : List ℕ → List ℕ → Type 0
IsLate limits order = (i : ℕ) → i < length order → slice_index limits (slice_index order i) ≤ i

-- some state of an order stands below its limit
abbrev pub IsSoon : List ℕ → List ℕ → Type 0
IsSoon limits order = (i : ℕ) × (i < length order) × (i < slice_index limits (slice_index order i))

-- at a place below the limit of a state its bound tells that a high state comes within the run, and the limit of a state that is high itself is not within the run
pub record AreLimits (bounds : List Bound) (run : ℕ) (limits : List ℕ) : Type 0 where
  pub all : length limits ≡ length bounds
  pub soon : (q n : ℕ) → q < length bounds → n < slice_index limits q → n * (slice_index_or bounds q nothing).weight + (slice_index_or bounds q nothing).offset < run
  pub high : (q : ℕ) → q < length bounds → slice_index_or bounds q nothing ≡ record { weight = 1; offset = 0 } → run ≤ slice_index limits q
