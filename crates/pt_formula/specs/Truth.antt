-- First-order formulas over the integers as trees: what holds of values for all variables, and the solutions.
use Rattle.std.specs.Prelude.{ℕ, ◌≡◌, ◌↔◌, ◌⊎◌, ◌==◌, nat_lt, not, if◌then◌else◌, List, [], ◌∷◌, length, map, filter, ℤ, pos, ⊤}
use Rattle.pt_atoms.specs.declared.Kind.{Kind}
use Rattle.pt_atoms.specs.Atoms.{Compares}
use Rattle.pt_formula.specs.Forms.{Monomial}
use Rattle.pt_formula.specs.Values.{terms_value}

pub data Tree : Type 0 where
  True : Tree
  False : Tree
  Atom : Kind → List Monomial → ℤ → Tree
  Not : Tree → Tree
  And : Tree → Tree → Tree
  Or : Tree → Tree → Tree
  Iff : Tree → Tree → Tree
  Xor : Tree → Tree → Tree
  Exists : ℕ → Tree → Tree

-- values with another one for the variable v
abbrev pub updated : (ℕ → ℤ) → ℕ → ℤ → ℕ → ℤ
updated values v k u = if u == v then k else values u

-- truth (Tarski)
abbrev pub Holds : Tree → (ℕ → ℤ) → Type 0
Holds True values = ⊤
Holds False values = ⊥
Holds (Atom kind terms constant) values = Compares kind (terms_value values terms) constant
Holds (Not a) values = ¬ Holds a values
Holds (And a b) values = Holds a values × Holds b values
Holds (Or a b) values = Holds a values ⊎ Holds b values
Holds (Iff a b) values = Holds a values ↔ Holds b values
Holds (Xor a b) values = (Holds a values × (¬ Holds b values)) ⊎ ((¬ Holds a values) × Holds b values)
Holds (Exists v a) values = (k : ℤ) × Holds a (updated values v k)

-- increasing lists with one more number, joined, and without a number
abbrev pub insert_var : ℕ → List ℕ → List ℕ
insert_var v [] = v ∷ []
insert_var v (u ∷ us) = if nat_lt v u then v ∷ u ∷ us else if v == u then u ∷ us else u ∷ insert_var v us

abbrev pub union : List ℕ → List ℕ → List ℕ
union [] us = us
union (v ∷ vs) us = insert_var v (union vs us)

abbrev pub without : ℕ → List ℕ → List ℕ
without v us = filter (λ u. not (v == u)) us

-- the free variables, increasing
abbrev pub free_variables : Tree → List ℕ
free_variables True = []
free_variables False = []
free_variables (Atom kind terms constant) = map (λ t. t.0) terms
free_variables (Not a) = free_variables a
free_variables (And a b) = union (free_variables a) (free_variables b)
free_variables (Or a b) = union (free_variables a) (free_variables b)
free_variables (Iff a b) = union (free_variables a) (free_variables b)
free_variables (Xor a b) = union (free_variables a) (free_variables b)
free_variables (Exists v a) = without v (free_variables a)

-- the values that a vector gives to variables, and 0 to the others
abbrev pub valuation : List ℕ → List ℤ → ℕ → ℤ
valuation [] z u = pos 0
valuation (v ∷ vs) [] u = pos 0
valuation (v ∷ vs) (x ∷ z) u = if u == v then x else valuation vs z u

-- the vectors over the free variables of which it holds
abbrev pub Solutions : Tree → List ℤ → Type 0
Solutions t z = (length z ≡ length (free_variables t)) × Holds t (valuation (free_variables t) z)

-- a set over the variables `inner` as one over the variables `outer`; no condition is put on the added ones
abbrev pub Widened : List ℕ → List ℕ → (List ℤ → Type 0) → List ℤ → Type 0
Widened outer inner X z = (length z ≡ length outer) × X (map (valuation outer z) inner)
