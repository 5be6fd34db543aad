-- States from which two letters lead to an output.
use Rattle.std.specs.Prelude.{◌≡◌, ◌⊎◌, ◌↔◌, ℕ, zero, suc, ◌+◌, ◌<◌, List, [], ◌∷◌, length, not, Bool, false, IsTrue, Some, slice_get, slice_index_or, vec_len}
use Rattle.std.specs.Global.{Vec}
use Rattle.std.specs.List.{count_by}
use Rattle.pt_base.specs.Elements.{ContainsByRecursion}
use Rattle.pt_sets.specs.Automata.{Automaton, next_of, output_of}
use Rattle.pt_project.specs.Families.{Closes}

-- an output at one of two signs
abbrev pub HasOutput : Automaton → ℕ → ℕ → ℕ → Type 0
HasOutput a l m x = IsTrue (output_of a x l) ⊎ IsTrue (output_of a x m)

-- some number of steps by l or m lead from x to a state with an output at l or m
pub data Leads (a : Automaton) (l m : ℕ) : ℕ → Type 0 where
  shows : (x : ℕ) → HasOutput a l m x → Leads a l m x
  further : (x y : ℕ) → (next_of a x l ≡ y) ⊎ (next_of a x m ≡ y) → Leads a l m y → Leads a l m x

abbrev pub IsMarked : List Bool → ℕ → Type 0
IsMarked marks x = IsTrue (slice_index_or marks x false)

-- a successor of x is marked
abbrev pub HasMarkedNext : Automaton → ℕ → ℕ → List Bool → ℕ → Type 0
HasMarkedNext a l m marks x = IsMarked marks (next_of a x l) ⊎ IsMarked marks (next_of a x m)

-- the marks of a sign are those of the states that close by it
pub record AreMarks (a : Automaton) (n k s : ℕ) (marks : Vec Bool) : Type 0 where
  pub count : vec_len marks ≡ a.states
  pub marked : (x : ℕ) → x < a.states → IsMarked marks.items x ↔ Closes a n k x s

-- for each sign below m its marks
abbrev pub AreClosings : Automaton → ℕ → ℕ → ℕ → List (Vec Bool) → Type 0
AreClosings a n k m closings = (s : ℕ) (marks : Vec Bool) → s < m → slice_get closings s ≡ Some marks → AreMarks a n k s marks

-- the y-th list, empty where there is none
abbrev pub row_of : List (Vec ℕ) → ℕ → List ℕ
row_of [] y = []
row_of (v ∷ lists) zero = v.items
row_of (v ∷ lists) (suc y) = row_of lists y

-- the y-th list has the states below n with an edge to y by l or m
pub record AreSources (a : Automaton) (l m n : ℕ) (lists : List (Vec ℕ)) : Type 0 where
  pub sound : (y x : ℕ) → ContainsByRecursion x (row_of lists y) → (x < n) × ((next_of a x l ≡ y) ⊎ (next_of a x m ≡ y))
  pub complete : (x : ℕ) → x < n → ContainsByRecursion x (row_of lists (next_of a x l)) × ContainsByRecursion x (row_of lists (next_of a x m))

-- a search in which the states of a list were marked: the new marks, and those that are open
pub record MarksMore (list : List ℕ) (old new : List Bool) (before after : List ℕ) : Type 0 where
  pub count : length new ≡ length old
  pub stays : (x : ℕ) → IsMarked old x → IsMarked new x
  pub marked : (x : ℕ) → ContainsByRecursion x list → IsMarked new x
  pub only : (x : ℕ) → IsMarked new x → IsMarked old x ⊎ ContainsByRecursion x list
  pub opened : (x : ℕ) → IsMarked new x → IsMarked old x ⊎ ContainsByRecursion x after
  pub kept : (x : ℕ) → ContainsByRecursion x before → ContainsByRecursion x after
  pub within : (x : ℕ) → ContainsByRecursion x after → ContainsByRecursion x before ⊎ ContainsByRecursion x list
  pub work : count_by not new + length after ≡ count_by not old + length before
