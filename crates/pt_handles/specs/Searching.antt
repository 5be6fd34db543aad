-- A search through the states of an automaton: marks of the states that were met, in the order in which they were met.
use Rattle.std.specs.Prelude.{◌≡◌, ◌⊎◌, ℕ, ◌<◌, ◌≤◌, List, Bool, true, false, length, slice_index, slice_index_or}

-- the marks are true at the states that were met, and each was met once
pub record IsQueue (n : ℕ) (marks : List Bool) (queue : List ℕ) : Type 0 where
  pub size : length marks ≡ n
  pub met : (q : ℕ) → slice_index_or marks q false ≡ true → (k : ℕ) × (k < length queue) × (slice_index queue k ≡ q)
  pub within : (k : ℕ) → k < length queue → slice_index queue k < n
  pub marked : (k : ℕ) → k < length queue → slice_index_or marks (slice_index queue k) false ≡ true
  pub once : (k m : ℕ) → k < length queue → m < length queue → slice_index queue k ≡ slice_index queue m → k ≡ m

-- the states f 0, f 1, .., n of them, are met, and no others
pub record Meets (f : ℕ → ℕ) (n : ℕ) (old new : List Bool) (before after : List ℕ) : Type 0 where
  pub marked : (j : ℕ) → j < n → slice_index_or new (f j) false ≡ true
  pub stays : (q : ℕ) → slice_index_or old q false ≡ true → slice_index_or new q false ≡ true
  pub only : (q : ℕ) → slice_index_or new q false ≡ true → (slice_index_or old q false ≡ true) ⊎ ((j : ℕ) × (j < n) × (f j ≡ q))
  pub longer : length before ≤ length after
  pub kept : (k : ℕ) → k < length before → slice_index after k ≡ slice_index before k
