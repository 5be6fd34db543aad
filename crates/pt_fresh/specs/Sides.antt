-- Terms whose fresh variables are fixed by definitions, and their values.
use Rattle.std.specs.Prelude.{ℕ, ◌≡◌, ◌↔◌, ◌<◌, Bool, false, List, [], ◌∷◌, length, map, ℤ}
use Rattle.std.specs.List.{AllByRecursion}
use Rattle.pt_base.specs.Elements.{PairsByRecursion}
use Rattle.pt_formula.specs.Forms.{IsIncreasing}
use Rattle.pt_formula.specs.declared.form.Form.{Form}
use Rattle.pt_formula.specs.Formulas.{IsFormula, tree_of, variables_of, contains}
use Rattle.pt_formula.specs.Sums.{IsForm, form_value}
use Rattle.pt_formula.specs.Truth.{Tree, Holds, updated}
use Rattle.pt_fresh.specs.declared.term.Term.{Term}
use Rattle.pt_fresh.specs.Making.{NodeList}
use Rattle.pt_fresh.specs.Outcomes.{Grows}

-- g is f with more nodes, and its node i holds exactly of the values that P holds of
pub record Means (f g : NodeList) (i : ℕ) (P : (ℕ → ℤ) → Type 0) : Type 0 where
  pub formula : IsFormula g
  pub grows : Grows f g
  pub range : i < length g
  pub holds : (values : ℕ → ℤ) → Holds (tree_of g i) values ↔ P values

-- the variable is in the form
abbrev pub names : ℕ → Form → Bool
names v a = contains v (map (λ t. t.0) a.terms)

-- for all values of the other variables, exactly one value of v makes it hold
pub record IsDefinite (t : Tree) (v : ℕ) : Type 0 where
  pub some : (values : ℕ → ℤ) → (k : ℤ) × Holds t (updated values v k)
  pub one : (values : ℕ → ℤ) (k l : ℤ) → Holds t (updated values v k) → Holds t (updated values v l) → k ≡ l

-- variables, increasing, each with a node that defines it and in which no later one is free
pub record IsSide (f : NodeList) (side : List (ℕ × ℕ)) : Type 0 where
  pub variables : IsIncreasing (map (λ x. x.0) side)
  pub nodes : AllByRecursion (λ x. x.1 < length f) side
  pub definite : AllByRecursion (λ x. IsDefinite (tree_of f x.1) x.0) side
  pub earlier : PairsByRecursion (λ x y. contains y.0 (variables_of f x.1) ≡ false) side

pub record IsTerm (f : NodeList) (t : Term) : Type 0 where
  pub form : IsForm t.form
  pub side : IsSide f t.side

-- settled are the values with those variables set, in order, by their definitions
abbrev pub Settles : NodeList → List (ℕ × ℕ) → (ℕ → ℤ) → (ℕ → ℤ) → Type 0
Settles f [] values settled = (u : ℕ) → settled u ≡ values u
Settles f (x ∷ side) values settled = (k : ℤ) × Holds (tree_of f x.1) (updated values x.0 k) × Settles f side (updated values x.0 k) settled

-- z is the value of the term
abbrev pub IsValue : NodeList → Term → (ℕ → ℤ) → ℤ → Type 0
IsValue f t values z = (settled : ℕ → ℤ) × Settles f t.side values settled × (z ≡ form_value settled t.form)
