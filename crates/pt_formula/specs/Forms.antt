-- Terms: variables in increasing order with their coefficients, none of them 0.
use Rattle.std.specs.Prelude.{ℕ, ◌<◌, ◌==◌, Bool, not, IsTrue, List, [], ◌∷◌, map, ℤ, ⊤, unsigned_abs}
use Rattle.std.specs.List.{AllByRecursion}

-- a variable and its coefficient
abbrev pub Monomial : Type 0
Monomial = ℕ × ℤ

abbrev pub is_zero : ℤ → Bool
is_zero z = unsigned_abs z == 0

-- each variable is below the ones after it
abbrev pub IsIncreasing : List ℕ → Type 0
IsIncreasing [] = ⊤
IsIncreasing (v ∷ vs) = AllByRecursion (λ u. v < u) vs × IsIncreasing vs

abbrev pub AreTerms : List Monomial → Type 0
AreTerms ts = IsIncreasing (map (λ t. t.0) ts) × AllByRecursion (λ t. IsTrue (not (is_zero t.1))) ts
