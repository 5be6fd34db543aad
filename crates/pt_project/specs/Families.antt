-- Sets of states that are reached by lists of letters which are one list without the dropped track.
use Rattle.std.specs.Prelude.{◌≡◌, ◌⊎◌, ◌↔◌, ℕ, suc, ◌<◌, ◌≤◌, List, Bool, IsTrue, replicate}
use Rattle.pt_base.specs.Elements.{ContainsByRecursion, PairsByRecursion}
use Rattle.pt_sets.specs.Words.{IsLetter, AreLetters, sign_vector}
use Rattle.pt_sets.specs.Sets.{VectorSet}
use Rattle.pt_sets.specs.Automata.{Automaton, IsAutomaton, SetOfState, next_of, output_of, run}
use Rattle.pt_sets.specs.Costs.{RestrictsBy, SameFamily}
use Rattle.pt_project.specs.Projecting.{projected, without, without_all, with_digit}

-- the state after a list of letters
abbrev pub run_of : Automaton → ℕ → List ℕ → ℕ
run_of a q p = run (next_of a) (output_of a) q p

-- from x, letters that are all s without track k lead to a state with an output at a sign that is s without track k
abbrev pub Closes : Automaton → ℕ → ℕ → ℕ → ℕ → Type 0
Closes a n k x s =
    (u : List ℕ) × (c m : ℕ) × AreLetters (suc n) u × IsLetter (suc n) c × (without_all k u ≡ replicate m s) × (without k c ≡ s) × IsTrue (output_of a (run_of a x u) c)

-- so the vector of a sign of the other n tracks is in the projection of the set of a state exactly where the state closes by it
abbrev pub ClosingIsProjection : Type 0
ClosingIsProjection =
    (a : Automaton) (n k x s : ℕ) → IsAutomaton a → a.tracks ≡ suc n → k ≤ n → x < a.states → IsLetter n s → Closes a n k x s ↔ projected k (SetOfState a x) (sign_vector n s)

-- F has, in increasing order, the states that are reached from the start by lists of letters which are w without track k
pub record IsFamily (a : Automaton) (start n k : ℕ) (w F : List ℕ) : Type 0 where
  pub increasing : PairsByRecursion ◌<◌ F
  pub sound : (x : ℕ) → ContainsByRecursion x F → (p : List ℕ) × AreLetters (suc n) p × (without_all k p ≡ w) × (run_of a start p ≡ x)
  pub complete : (p : List ℕ) → AreLetters (suc n) p → without_all k p ≡ w → ContainsByRecursion (run_of a start p) F

-- y is the successor of a state of F by the letter l or the letter m
abbrev pub IsSuccessor : Automaton → ℕ → ℕ → List ℕ → ℕ → Type 0
IsSuccessor a l m F y = (x : ℕ) × ContainsByRecursion x F × ((next_of a x l ≡ y) ⊎ (next_of a x m ≡ y))

-- G has, in increasing order, the successors of F by both letters that are b without track k
pub record IsStepFamily (a : Automaton) (k : ℕ) (F : List ℕ) (b : ℕ) (G : List ℕ) : Type 0 where
  pub increasing : PairsByRecursion ◌<◌ G
  pub sound : (y : ℕ) → ContainsByRecursion y G → (x d : ℕ) × ContainsByRecursion x F × (d < 2) × (next_of a x (with_digit k d b) ≡ y)
  pub complete : (x d : ℕ) → ContainsByRecursion x F → d < 2 → ContainsByRecursion (next_of a x (with_digit k d b)) G

-- the output of a family at a sign of the remaining tracks
abbrev pub ShowsFamily : Automaton → ℕ → ℕ → List ℕ → ℕ → Bool → Type 0
ShowsFamily a n k F s b = IsTrue b ↔ ((x : ℕ) × ContainsByRecursion x F × Closes a n k x s)

-- lists of letters of the other n tracks with equal families of residuals
abbrev pub same_family : ℕ → ℕ → VectorSet → List ℕ → List ℕ → Type 0
same_family n k X = SameFamily (RestrictsBy (suc n) (without k)) (suc n) X
