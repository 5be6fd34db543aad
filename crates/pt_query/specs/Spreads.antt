-- States by their distance from marked ones.
use Rattle.std.specs.Prelude.{◌≡◌, ◌≢◌, ◌⊎◌, ℕ, ◌+◌, ◌<◌, ◌≤◌, List, Bool, false, Option, None, Some, length, slice_index, slice_index_or, IsTrue}
use Rattle.pt_sets.specs.Words.{IsLetter, AreLetters}
use Rattle.pt_sets.specs.Automata.{Automaton, next_of, output_of, run}
use Rattle.pt_query.specs.Walks.{Before}
use Rattle.pt_query.specs.declared.wide.Spread.{Spread}

abbrev pub IsMarked : List Bool → ℕ → Type 0
IsMarked row q = IsTrue (slice_index_or row q false)

-- the marked states are those that n letters lead to
pub record IsLevel (a : Automaton) (start n : ℕ) (row : List Bool) : Type 0 where
  pub count : length row ≡ a.states
  pub sound : (q : ℕ) → IsMarked row q → (w : List ℕ) × AreLetters a.tracks w × (length w ≡ n) × (run (next_of a) (output_of a) start w ≡ q)
  pub complete : (w : List ℕ) → AreLetters a.tracks w → length w ≡ n → IsMarked row (run (next_of a) (output_of a) start w)

-- the marked states are those that a letter leads to from a marked state below k of the row
pub record IsImageTo (a : Automaton) (row : List Bool) (k : ℕ) (next : List Bool) : Type 0 where
  pub count : length next ≡ a.states
  pub sound : (q : ℕ) → IsMarked next q → (p l : ℕ) × (p < k) × IsMarked row p × IsLetter a.tracks l × (next_of a p l ≡ q)
  pub complete : (p l : ℕ) → p < k → IsMarked row p → IsLetter a.tracks l → IsMarked next (next_of a p l)

-- besides the old marks there are those of the successors by the first k letters
pub record MarksSuccessors (a : Automaton) (p k : ℕ) (old new : List Bool) : Type 0 where
  pub count : length new ≡ length old
  pub kept : (q : ℕ) → IsMarked old q → IsMarked new q
  pub marked : (l : ℕ) → l < k → IsMarked new (next_of a p l)
  pub only : (q : ℕ) → IsMarked new q → IsMarked old q ⊎ ((l : ℕ) × (l < k) × (next_of a p l ≡ q))

-- d letters lead from a marked state to q
abbrev pub IsReachedFrom : Automaton → List Bool → ℕ → ℕ → Type 0
IsReachedFrom a row d q = (p : ℕ) × (w : List ℕ) × (p < a.states) × IsMarked row p × AreLetters a.tracks w × (length w ≡ d) × (run (next_of a) (output_of a) p w ≡ q)

-- The states that were met, each once, in order of their depths, the marked ones below k at depth 0; all pairs of a place
-- and a letter before i, l are done.
pub record IsSpread (a : Automaton) (row : List Bool) (k : ℕ) (order depths : List ℕ) (places : List (Option ℕ)) (i l : ℕ) : Type 0 where
  pub depth_count : length depths ≡ length order
  pub place_count : length places ≡ a.states
  pub within : (j : ℕ) → j < length order → slice_index order j < a.states
  pub found : (q j : ℕ) → slice_index_or places q None ≡ Some j → (j < length order) × (slice_index order j ≡ q)
  pub placed : (j : ℕ) → j < length order → slice_index_or places (slice_index order j) None ≡ Some j
  pub reached : (j : ℕ) → j < length order → IsReachedFrom a row (slice_index depths j) (slice_index order j)
  pub small : (j : ℕ) → j < length order → slice_index depths j ≤ j
  pub sorted : (j m : ℕ) → j < m → m < length order → slice_index depths j ≤ slice_index depths m
  pub near : (j : ℕ) → j < length order → i < length order → slice_index depths j ≤ slice_index depths i + 1
  pub sources : (q : ℕ) → q < k → IsMarked row q → (j : ℕ) × (j < length order) × (slice_index order j ≡ q) × (slice_index depths j ≡ 0)
  pub done : (p m : ℕ) → p < length order → IsLetter a.tracks m → Before p m i l →
      (j : ℕ) × (j < length order) × (slice_index order j ≡ next_of a (slice_index order p) m) × (slice_index depths j ≤ slice_index depths p + 1)

abbrev pub HasSpread : Automaton → List Bool → ℕ → Spread → ℕ → ℕ → Type 0
HasSpread a row k spread i l = IsSpread a row k spread.states.items spread.depths.items spread.places.items i l

-- two letters that differ lead from the state to the end of a word
abbrev pub IsFinal : Automaton → ℕ → Type 0
IsFinal a q = (l s : ℕ) × IsLetter a.tracks l × IsLetter a.tracks s × (l ≢ s) × IsTrue (output_of a (next_of a q l) s)

-- the least distance of a final state from marked ones
pub record IsLeastDepth (a : Automaton) (row : List Bool) (d : ℕ) : Type 0 where
  pub some : (q : ℕ) × IsReachedFrom a row d q × IsFinal a q
  pub least : (e q : ℕ) → IsReachedFrom a row e q → IsFinal a q → d ≤ e

abbrev pub HasNoFinal : Automaton → List Bool → Type 0
HasNoFinal a row = (e q : ℕ) → IsReachedFrom a row e q → IsFinal a q → ⊥
