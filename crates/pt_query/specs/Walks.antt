-- A breadth-first search through the states of an automaton that takes letters in increasing order.
use Rattle.std.specs.Prelude.{◌≡◌, ◌⊎◌, ℕ, zero, suc, ◌<◌, List, [], ◌∷◌, ◌++◌, Option, None, Some, length, slice_index, slice_index_or, IsTrue}
use Rattle.pt_sets.specs.Words.{IsLetter}
use Rattle.pt_sets.specs.Automata.{Automaton, next_of, output_of}
use Rattle.pt_query.specs.declared.walking.Walk.{Walk}

-- the pair p, m comes before the pair i, l
abbrev pub Before : ℕ → ℕ → ℕ → ℕ → Type 0
Before p m i l = (p < i) ⊎ ((p ≡ i) × (m < l))

-- The states in the order in which they were met, each once and the start first; each other one was met from its parent,
-- a place in that order, by its letter. All pairs of a place and a letter before i, l are done, each no later than the
-- state that it leads to was met.
pub record IsWalk (a : Automaton) (start : ℕ) (order parents letters : List ℕ) (places : List (Option ℕ)) (i l : ℕ) : Type 0 where
  pub parent_count : length parents ≡ length order
  pub letter_count : length letters ≡ length order
  pub place_count : length places ≡ a.states
  pub some : 0 < length order
  pub first : slice_index order 0 ≡ start
  pub within : (j : ℕ) → j < length order → slice_index order j < a.states
  pub found : (q j : ℕ) → slice_index_or places q None ≡ Some j → (j < length order) × (slice_index order j ≡ q)
  pub placed : (j : ℕ) → j < length order → slice_index_or places (slice_index order j) None ≡ Some j
  pub earlier : (j : ℕ) → 0 < j → j < length order → slice_index parents j < j
  pub letter : (j : ℕ) → 0 < j → j < length order → IsLetter a.tracks (slice_index letters j)
  pub edge : (j : ℕ) → 0 < j → j < length order → next_of a (slice_index order (slice_index parents j)) (slice_index letters j) ≡ slice_index order j
  pub past : (j : ℕ) → 0 < j → j < length order → Before (slice_index parents j) (slice_index letters j) i l
  pub increasing : (j k : ℕ) → 0 < j → j < k → k < length order → Before (slice_index parents j) (slice_index letters j) (slice_index parents k) (slice_index letters k)
  pub done : (p m : ℕ) → p < length order → IsLetter a.tracks m → Before p m i l →
      (j : ℕ) × (j < length order) × (slice_index order j ≡ next_of a (slice_index order p) m) × (0 < j → Before (slice_index parents j) (slice_index letters j) p (suc m))

abbrev pub HasWalked : Automaton → ℕ → Walk → ℕ → ℕ → Type 0
HasWalked a start walk i l = IsWalk a start walk.states.items walk.parents.items walk.letters.items walk.places.items i l

-- the letters by which a place was met, of a search with so many places
abbrev pub word_to : List ℕ → List ℕ → ℕ → ℕ → List ℕ
word_to parents letters zero j = []
word_to parents letters (suc n) zero = []
word_to parents letters (suc n) (suc j) = word_to parents letters n (slice_index parents (suc j)) ++ slice_index letters (suc j) ∷ []

abbrev pub access : List ℕ → List ℕ → ℕ → List ℕ
access parents letters j = word_to parents letters j j

-- the first place with an output, and the least sign of one
pub record IsFirstOutput (a : Automaton) (order : List ℕ) (j s : ℕ) : Type 0 where
  pub inside : j < length order
  pub sign : IsLetter a.tracks s
  pub shown : IsTrue (output_of a (slice_index order j) s)
  pub least : (r : ℕ) → r < s → ¬ IsTrue (output_of a (slice_index order j) r)
  pub earlier : (k r : ℕ) → k < j → IsLetter a.tracks r → ¬ IsTrue (output_of a (slice_index order k) r)
