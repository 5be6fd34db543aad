-- The edges into a state and into a class.
use Rattle.std.specs.Prelude.{◌≡◌, ℕ, zero, suc, ◌+◌, ◌^◌, ◌<◌, ◌≤◌, ◌⊎◌, List, [], ◌∷◌, length, slice_index}
use Rattle.std.specs.List.{Contains}
use Rattle.std.specs.Global.{Vec}
use Rattle.pt_sets.specs.Automata.{Automaton, next_of}

-- one more than the last place below `bound` that leads to t, or 0 where there is none
pub record IsLast (edges : ℕ → ℕ) (t bound last : ℕ) : Type 0 where
  pub within : last ≤ bound
  pub leads : (x : ℕ) → last ≡ x + 1 → edges x ≡ t
  pub greatest : (x : ℕ) → x < bound → edges x ≡ t → x < last

-- the last edge into each state, and before each edge the last one into the same state
pub record AreChains (a : Automaton) (last before : List ℕ) : Type 0 where
  pub last_len : length last ≡ a.states
  pub before_len : length before ≡ length a.edges
  pub ends : (t : ℕ) → t < a.states → IsLast (slice_index a.edges) t (length a.edges) (slice_index last t)
  pub links : (x : ℕ) → x < length a.edges → IsLast (slice_index a.edges) (slice_index a.edges x) x (slice_index before x)

-- the y-th row, and nothing past the last one
abbrev pub row_of : List (Vec ℕ) → ℕ → List ℕ
row_of [] y = []
row_of (v ∷ rows) zero = v.items
row_of (v ∷ rows) (suc y) = row_of rows y

-- each row got the states that lead to t by its letter
pub record Deals (a : Automaton) (t : ℕ) (old new : List (Vec ℕ)) : Type 0 where
  pub kept : (q l : ℕ) → Contains (row_of old l) q → Contains (row_of new l) q
  pub sound : (q l : ℕ) → Contains (row_of new l) q → Contains (row_of old l) q ⊎ ((q < a.states) × (next_of a q l ≡ t))
  pub complete : (q l : ℕ) → q < a.states → l < 2 ^ a.tracks → next_of a q l ≡ t → Contains (row_of new l) q

-- each row has the states that lead into a class by its letter
pub record AreDealt (a : Automaton) (class : ℕ → ℕ) (at : ℕ) (rows : List (Vec ℕ)) : Type 0 where
  pub sound : (q l : ℕ) → Contains (row_of rows l) q → (q < a.states) × (class (next_of a q l) ≡ at)
  pub complete : (q l : ℕ) → q < a.states → l < 2 ^ a.tracks → class (next_of a q l) ≡ at → Contains (row_of rows l) q

-- each row has the states of its number
pub record AreRowsOf (n : ℕ) (numbers : ℕ → ℕ) (rows : List (Vec ℕ)) : Type 0 where
  pub sound : (q c : ℕ) → Contains (row_of rows c) q → (q < n) × (numbers q ≡ c)
  pub complete : (q : ℕ) → q < n → Contains (row_of rows (numbers q)) q
