-- A set whose residuals are itself, and that has no vector of a sign, is empty.
use Rattle.std.proofs.Common.{◌≡◌, ℕ, ◌<◌, ◌^◌, List, [], ◌∷◌, ◌++◌, sym, ◌∙◌, subst}
use Rattle.pt_sets.specs.Words.{IsLetter, AreLetters, doubled_plus, sign_vector, value}
use Rattle.pt_sets.specs.Sets.{VectorSet}
use Rattle.pt_sets.proofs.Digits.{length-sign_vector, length-doubled_plus}
use Rattle.pt_sets.proofs.WordValues.{length-value, value-letter}
use Rattle.pt_sets.proofs.Acceptance.{some-word}
use Rattle.pt_query.specs.Queries.{IsEmptySet}
use Rattle.pt_query.specs.Steps.{IsStill}

no-word : (t : ℕ) (X : VectorSet) → ((l : ℕ) → l < 2 ^ t → IsStill t X l) → (w : List ℕ) (s : ℕ) → AreLetters t w → IsLetter t s → X (value t (w ++ s ∷ [])) → ⊥
no-word t X still [] s letters sign h = (still s sign).0 h
no-word t X still (a ∷ w) s letters sign h =
    let rest = value t (w ++ s ∷ []) in
    no-word t X still w s letters.1 sign (((still a letters.0).1.agrees rest (length-value t (w ++ s ∷ []))).0 (subst X (value-letter t a w s) h))

pub still-empty : (t : ℕ) (X : VectorSet) → ((l : ℕ) → l < 2 ^ t → IsStill t X l) → IsEmptySet t X
still-empty t X still z len h =
    let (w, s, encodes) = some-word z in
    let letters = subst (λ (n : ℕ). AreLetters n w) len encodes.letters in
    let sign = subst (λ (n : ℕ). IsLetter n s) len encodes.sign in
    let meaning = subst (λ (n : ℕ). value n (w ++ s ∷ []) ≡ z) len encodes.meaning in
    no-word t X still w s letters sign (subst X (sym meaning) h)

pub empty-still : (t : ℕ) (X : VectorSet) → IsEmptySet t X → (l : ℕ) → IsStill t X l
empty-still t X none l = (
  none (sign_vector t l) (length-sign_vector t l),
  record { agrees = λ z len. (λ h. absurd (none (doubled_plus l z) (length-doubled_plus l z ∙ len) h), λ h. absurd (none z len h)) },
)
