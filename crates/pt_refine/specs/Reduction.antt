-- An automaton with one state for each set of another.
use Rattle.std.specs.Prelude.{◌≡◌, ℕ, ◌<◌, ◌↔◌, List, length, slice_index}
use Rattle.pt_sets.specs.Sets.{SameSet}
use Rattle.pt_sets.specs.Automata.{Automaton, SetOfState}

-- an automaton and, for each state of the automaton that it was made of, the number of its class
pub record Reduction : Type 0 where
  pub table : Automaton
  pub classes : List ℕ

-- the class of a state
abbrev pub class_of : Reduction → ℕ → ℕ
class_of r q = slice_index r.classes q

-- r is a made smallest: its states are the classes of states with equal sets, and a class has the set of its members
pub record IsReductionOf (a : Automaton) (r : Reduction) : Type 0 where
  pub length : length r.classes ≡ a.states
  pub tracks : r.table.tracks ≡ a.tracks
  pub within : (q : ℕ) → q < a.states → class_of r q < r.table.states
  pub one_class : (p q : ℕ) → p < a.states → q < a.states → (class_of r p ≡ class_of r q) ↔ SameSet a.tracks (SetOfState a p) (SetOfState a q)
  pub sets : (q : ℕ) → q < a.states → SameSet a.tracks (SetOfState r.table (class_of r q)) (SetOfState a q)
  pub members : (c : ℕ) → c < r.table.states → (q : ℕ) × (q < a.states) × (class_of r q ≡ c)
