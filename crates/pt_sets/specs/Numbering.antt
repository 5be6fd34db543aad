-- A search that numbers the values of lists of letters, with outputs and successors cell by cell.
use Rattle.std.specs.Prelude.{◌≡◌, ◌≢◌, ◌⊎◌, ℕ, ◌+◌, ◌*◌, ◌^◌, ◌<◌, List, [], ◌∷◌, ◌++◌, Bool, false, length, Some, slice_get, slice_index, slice_index_or}
use Rattle.std.specs.List.{AllByRecursion}
use Rattle.pt_sets.specs.Words.{IsLetter, AreLetters}
use Rattle.pt_base.specs.Elements.{PairsByRecursion}

-- v is the value of some list of letters
abbrev pub IsReached : {V : Type 0} → ℕ → (List ℕ → V → Type 0) → V → Type 0
IsReached t Stands v = (w : List ℕ) × AreLetters t w × Stands w v

-- What the search is over: `Stands w v`, the list w has the value v; `Step v l u`, a letter l behind a list of value v
-- gives one of value u; `Shows v s b`, the output of v at the sign s is b.
-- The first n cells are done; cell i * 2 ^ t + l is that of value i and letter l.
pub record Numbering {V : Type 0} (t : ℕ) (first : V) (Stands : List ℕ → V → Type 0) (Step : V → ℕ → V → Type 0) (Shows : V → ℕ → Bool → Type 0) (values : List V) (outputs : List Bool) (edges : List ℕ) (n : ℕ) : Type 0 where
  pub output_count : length outputs ≡ n
  pub edge_count : length edges ≡ n
  pub begins : slice_get values 0 ≡ Some first
  pub distinct : PairsByRecursion ◌≢◌ values
  pub reached : AllByRecursion (IsReached t Stands) values
  pub output_cell : (i l : ℕ) (v : V) → slice_get values i ≡ Some v → IsLetter t l → i * 2 ^ t + l < n → Shows v l (slice_index_or outputs (i * 2 ^ t + l) false)
  pub edge_cell : (i l : ℕ) (v : V) → slice_get values i ≡ Some v → IsLetter t l → i * 2 ^ t + l < n →
      (u : V) × (slice_get values (slice_index edges (i * 2 ^ t + l)) ≡ Some u) × Step v l u

-- new holds what old holds, and v last if it was not there
abbrev pub Adds : {V : Type 0} → V → List V → List V → Type 0
Adds v old new = (new ≡ old) ⊎ ((new ≡ old ++ v ∷ []) × AllByRecursion (λ u. u ≢ v) old)
