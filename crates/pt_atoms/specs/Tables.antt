-- The forms that a normal form reaches, and the automaton of its set.
use Rattle.std.specs.Prelude.{ℕ, ◌<◌, ◌≡◌, List, length, map}
use Rattle.std.specs.List.{AllByRecursion}
use Rattle.pt_base.specs.Elements.{ContainsByRecursion, PairsByRecursion}
use Rattle.pt_sets.specs.Words.{IsLetter, AreLetters}
use Rattle.pt_sets.specs.Sets.{SameSet, residual_by}
use Rattle.pt_sets.specs.Automata.{Automaton, SetOfState}
use Rattle.pt_sets.specs.Costs.{CostAbove, CostWithin, CostIs, SameResidual}
use Rattle.pt_atoms.specs.Atoms.{NormalSet, residual_form, form_after}
use Rattle.pt_atoms.specs.declared.Normal.{Normal}
use Rattle.pt_atoms.specs.declared.fault.AtomFault.{AtomFault}
use Rattle.pt_atoms.specs.declared.fault.AtomFault.TheVariants.{States, NoMemory}

-- the forms are some that the normal form n reaches by lists of letters, each once
pub record AreReached (n : Normal) (forms : List Normal) : Type 0 where
  pub words : List (List ℕ)
  pub reached : forms ≡ map (form_after n) words
  pub letters : AllByRecursion (AreLetters (length n.coefficients)) words
  pub different : PairsByRecursion (λ x y. ¬ (x ≡ y)) forms

-- the residual by each letter of t tracks of a form of the list is in the list
abbrev pub IsClosed : ℕ → List Normal → Type 0
IsClosed t forms = (m : Normal) (a : ℕ) → ContainsByRecursion m forms → IsLetter t a → ContainsByRecursion (residual_form m a) forms

-- the automaton of the set: state 0 has it, and the states have its residuals, each once
pub record IsAtomTable (n : Normal) (a : Automaton) : Type 0 where
  pub tracks : a.tracks ≡ length n.coefficients
  pub start : SameSet a.tracks (SetOfState a 0) (NormalSet n)
  pub residuals : (q : ℕ) → q < a.states → (w : List ℕ) × AreLetters a.tracks w × SameSet a.tracks (SetOfState a q) (residual_by (NormalSet n) w)
  pub every : (w : List ℕ) → AreLetters a.tracks w → (q : ℕ) × (q < a.states) × SameSet a.tracks (SetOfState a q) (residual_by (NormalSet n) w)
  pub once : (p q : ℕ) → p < q → q < a.states → ¬ SameSet a.tracks (SetOfState a p) (SetOfState a q)

-- the number of residuals of the set is above the bound, at most the bound, or the number
abbrev pub ResidualsAbove : Normal → ℕ → Type 0
ResidualsAbove n B = CostAbove (SameResidual (length n.coefficients) (NormalSet n)) (length n.coefficients) B

abbrev pub ResidualsWithin : Normal → ℕ → Type 0
ResidualsWithin n B = CostWithin (SameResidual (length n.coefficients) (NormalSet n)) (length n.coefficients) B

abbrev pub ResidualsAre : Normal → ℕ → Type 0
ResidualsAre n B = CostIs (SameResidual (length n.coefficients) (NormalSet n)) (length n.coefficients) B

-- why no table was made: more residuals than the bound, or want of memory
abbrev pub IsCause : Normal → ℕ → AtomFault → Type 0
IsCause n B (States b) = (b ≡ B) × ResidualsAbove n B
IsCause n B NoMemory = Unit {0}
