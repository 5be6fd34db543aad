-- The vectors of signs and the values of words in the sets of forms.
use Rattle.std.proofs.Common.{ℕ, ◌↔◌, List, [], ◌∷◌, ◌++◌, length, sym, subst}
use Rattle.pt_sets.specs.Words.{Vector, sign_vector, value}
use Rattle.pt_sets.proofs.Digits.{length-sign_vector, doubled_plus-sign_vector}
use Rattle.pt_sets.proofs.WordValues.{length-value, value-letter}
use Rattle.pt_atoms.proofs.Forms.{residual_is_normal, residual_has_set, length-residual_form}
use Rattle.pt_atoms.specs.Atoms.{IsNormal, NormalSet, residual_form, form_after}
use Rattle.pt_atoms.specs.declared.Normal.{Normal}

-- the sign rule: the residual by a sign has the sign's vector exactly where the form has it
pub sign_rule : (n : Normal) (s : ℕ) → IsNormal n → NormalSet (residual_form n s) (sign_vector (length n.coefficients) s) ↔ NormalSet n (sign_vector (length n.coefficients) s)
sign_rule n s h =
    let t = length n.coefficients in
    subst (λ (z : Vector). NormalSet (residual_form n s) (sign_vector t s) ↔ NormalSet n z) (doubled_plus-sign_vector t s)
    (residual_has_set n s (sign_vector t s) h (length-sign_vector t s))

-- the value of a word is in the set exactly where the form after its letters has the vector of its sign
pub word_in_set : (n : Normal) (w : List ℕ) (s : ℕ) → IsNormal n → NormalSet n (value (length n.coefficients) (w ++ s ∷ [])) ↔ NormalSet (form_after n w) (sign_vector (length n.coefficients) s)
word_in_set n [] s h = (λ x. x, λ x. x)
word_in_set n (a ∷ w) s h =
    let t = length n.coefficients in
    let size = length-residual_form n a h in
    let more = word_in_set (residual_form n a) w s (residual_is_normal n a h) in
    let more' = subst (λ (k : ℕ). NormalSet (residual_form n a) (value k (w ++ s ∷ [])) ↔ NormalSet (form_after (residual_form n a) w) (sign_vector k s)) size more in
    let first = residual_has_set n a (value t (w ++ s ∷ [])) h (length-value t (w ++ s ∷ [])) in
    subst (λ (z : Vector). NormalSet n z ↔ NormalSet (form_after n (a ∷ w)) (sign_vector t s)) (sym (value-letter t a w s))
    (λ x. more'.0 (first.1 x), λ x. first.0 (more'.1 x))
