-- Membership by halves, over sets.
use Rattle.std.proofs.Common.{◌≡◌, ◌↔◌, ℕ, ◌+◌, ◌<◌, ◌^◌, Bool, length, ap, sym, ◌∙◌, subst}
use Rattle.std.specs.Prelude.{IsTrue}
use Rattle.pt_sets.specs.Words.{Vector, AreSigns, sign_vector, parities, halves}
use Rattle.pt_sets.specs.Sets.{VectorSet, SameSet, residual}
use Rattle.pt_sets.proofs.Halving.{length-halves, parities-letter, doubled_plus-halves, signs-are_sign_vectors}
use Rattle.pt_query.specs.Shifting.{shifted}
use Rattle.pt_query.proofs.Shifts.{length-shifted, halves-shifted}

-- the letter at a position is one
pub letter-at : (t k : ℕ) (z : Vector) → length z ≡ t → parities (shifted k z) < 2 ^ t
letter-at t k z len = subst (λ (n : ℕ). parities (shifted k z) < 2 ^ n) (length-shifted k z ∙ len) (parities-letter (shifted k z))

-- one step further
pub member-step : (t k : ℕ) (z : Vector) (A : Type 0) (X Y : VectorSet) → length z ≡ t → SameSet t Y (residual X (parities (shifted k z))) → (A ↔ X (shifted k z)) → A ↔ Y (shifted (k + 1) z)
member-step t k z A X Y len same before =
    let y = shifted k z in
    let at = same.agrees (halves y) (length-halves y ∙ (length-shifted k z ∙ len)) in (
      λ h. subst Y (halves-shifted k z) (at.1 (subst X (sym (doubled_plus-halves y)) (before.0 h))),
      λ h. before.1 (subst X (doubled_plus-halves y) (at.0 (subst Y (sym (halves-shifted k z)) h))),
    )

-- at the sign the output decides
pub member-last : (t k : ℕ) (z : Vector) (A : Type 0) (X : VectorSet) (b : Bool) → length z ≡ t → AreSigns (shifted k z) → (A ↔ X (shifted k z)) → IsTrue b ↔ X (sign_vector t (parities (shifted k z))) → IsTrue b ↔ A
member-last t k z A X b len signs before shown =
    let s = parities (shifted k z) in
    let is : sign_vector t s ≡ shifted k z = ap (λ (n : ℕ). sign_vector n s) (sym (length-shifted k z ∙ len)) ∙ signs-are_sign_vectors (shifted k z) signs in (
      λ h. before.1 (subst X is (shown.0 h)),
      λ h. shown.1 (subst X (sym is) (before.0 h)),
    )
