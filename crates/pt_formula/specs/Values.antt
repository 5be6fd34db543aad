-- The value of terms: the sum of the coefficients times the values of their variables.
use Rattle.std.specs.Prelude.{ℕ, List, [], ◌∷◌, ℤ, pos, ◌+ℤ◌, ◌*ℤ◌}
use Rattle.pt_formula.specs.Forms.{Monomial}

abbrev pub terms_value : (ℕ → ℤ) → List Monomial → ℤ
terms_value values [] = pos 0
terms_value values (t ∷ ts) = t.1 *ℤ values t.0 +ℤ terms_value values ts
