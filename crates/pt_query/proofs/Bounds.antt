-- Sets whose members are bounded.
use Rattle.std.proofs.Common.{◌≡◌, inl, inr, ℕ, zero, suc, ◌+◌, ◌*◌, ◌/◌, ◌%◌, ◌^◌, ◌<◌, ◌≤◌, List, [], ◌∷◌, length, sym, ◌∙◌, subst, arith}
use Rattle.std.specs.Prelude.{ℤ, pos, negsuc, ◌+ℤ◌, ◌*ℤ◌, neg_ℤ, unsigned_abs}
use Rattle.std.specs.List.{AllByRecursion}
use Rattle.std.proofs.lemmas.Bool.{cases_eq}
use Rattle.std.proofs.lemmas.Int.{ints}
use Rattle.pt_sets.specs.Words.{Vector, doubled_plus, sign_vector, parities, halves}
use Rattle.pt_sets.specs.Sets.{VectorSet, SameSet, residual, residual_by}
use Rattle.pt_sets.proofs.Digits.{length-doubled_plus}
use Rattle.pt_sets.proofs.Halving.{distance, size, length-halves, parities-letter, doubled_plus-halves}
use Rattle.pt_query.specs.Queries.{IsBounded}
use Rattle.pt_query.specs.Tame.{IsSingle}

-- each component is at most B in size
abbrev pub AreAtMost : ℕ → Vector → Type 0
AreAtMost B z = AllByRecursion (λ x. unsigned_abs x ≤ B) z

at-most-more : (B C : ℕ) → B ≤ C → (z : Vector) → AreAtMost B z → AreAtMost C z
at-most-more B C le [] all = tt
at-most-more B C le (x ∷ z) all = (omega (arith, all.0, le), at-most-more B C le z all.1)

even-negsuc : (n : ℕ) → (pos 2 *ℤ negsuc n +ℤ pos 0) ≡ negsuc (2 * n + 1)
even-negsuc n = omega (arith, ints)

odd-negsuc : (n : ℕ) → (pos 2 *ℤ negsuc n +ℤ pos 1) ≡ negsuc (2 * n)
odd-negsuc n = omega (arith, ints)

at-most-half : (B a : ℕ) (z : Vector) → AreAtMost B (doubled_plus a z) → AreAtMost B z
at-most-half B a [] all = tt
at-most-half B a (x ∷ z) all = (once x (a % 2) (omega arith) all.0, at-most-half B (a / 2) z all.1)
  where
    once : (x : ℤ) (d : ℕ) → d < 2 → unsigned_abs (pos 2 *ℤ x +ℤ pos d) ≤ B → unsigned_abs x ≤ B
    once (pos n) d small h = omega arith
    once (negsuc n) zero small h = let at : unsigned_abs (negsuc (2 * n + 1)) ≤ B = subst (λ (y : ℤ). unsigned_abs y ≤ B) (even-negsuc n) h in omega arith
    once (negsuc n) (suc zero) small h = let at : unsigned_abs (negsuc (2 * n)) ≤ B = subst (λ (y : ℤ). unsigned_abs y ≤ B) (odd-negsuc n) h in omega arith
    once (negsuc n) (suc (suc d)) small h = absurd (omega arith)

at-most-doubled : (B a : ℕ) (z : Vector) → AreAtMost B z → AreAtMost (2 * B + 1) (doubled_plus a z)
at-most-doubled B a [] all = tt
at-most-doubled B a (x ∷ z) all = (once x (a % 2) (omega arith) all.0, at-most-doubled B (a / 2) z all.1)
  where
    once : (x : ℤ) (d : ℕ) → d < 2 → unsigned_abs x ≤ B → unsigned_abs (pos 2 *ℤ x +ℤ pos d) ≤ 2 * B + 1
    once (pos n) d small h = omega arith
    once (negsuc n) zero small h = subst (λ (y : ℤ). unsigned_abs y ≤ 2 * B + 1) (sym (even-negsuc n)) (omega arith)
    once (negsuc n) (suc zero) small h = subst (λ (y : ℤ). unsigned_abs y ≤ 2 * B + 1) (sym (odd-negsuc n)) (omega arith)
    once (negsuc n) (suc (suc d)) small h = absurd (omega arith)

at-most-sign : (t s : ℕ) → AreAtMost 1 (sign_vector t s)
at-most-sign zero s = tt
at-most-sign (suc t) s = (once (s % 2) (omega arith), at-most-sign t (s / 2))
  where
    once : (d : ℕ) → d < 2 → unsigned_abs (neg_ℤ (pos d)) ≤ 1
    once zero h = omega arith
    once (suc zero) h = omega arith
    once (suc (suc d)) h = absurd (omega arith)

pub bounded-same : (t : ℕ) (X Y : VectorSet) → SameSet t X Y → IsBounded t X → IsBounded t Y
bounded-same t X Y same (B, all) = (B, λ z len in_Y. all z len ((same.agrees z len).1 in_Y))

pub bounded-residual : (t : ℕ) (X : VectorSet) (l : ℕ) → IsBounded t X → IsBounded t (residual X l)
bounded-residual t X l (B, all) = (B, λ z len h. at-most-half B l z (all (doubled_plus l z) (length-doubled_plus l z ∙ len) h))

pub bounded-residual_by : (t : ℕ) (X : VectorSet) (w : List ℕ) → IsBounded t X → IsBounded t (residual_by X w)
bounded-residual_by t X [] bounded = bounded
bounded-residual_by t X (l ∷ w) bounded = bounded-residual_by t (residual X l) w (bounded-residual t X l bounded)

pub bounded-single : (t : ℕ) (X : VectorSet) → IsSingle t X → IsBounded t X
bounded-single t X (s, is_s, only) = (1, λ z len h. subst (AreAtMost 1) (sym (only z len h)) (at-most-sign t s))

-- one bound for all letters
one-bound : (P : ℕ → ℕ → Type 0) → ((l B C : ℕ) → B ≤ C → P l B → P l C) → (n : ℕ) → ((l : ℕ) → l < n → (B : ℕ) × P l B) → (B : ℕ) × ((l : ℕ) → l < n → P l B)
one-bound P more zero each = (0, λ l h. absurd (omega arith))
one-bound P more (suc n) each =
    let (B, all) = one-bound P more n (λ l h. each l (omega arith)) in
    let (C, last) = each n (omega arith) in (
      B + C,
      λ l h. elim (cases_eq l n) [
        | inl same ↦ more l C (B + C) (omega arith) (subst (λ (k : ℕ). P k C) (sym same) last)
        | inr other ↦ more l B (B + C) (omega arith) (all l (omega (arith, h, other)))
      ],
    )

pub bounded-by-residuals : (t : ℕ) (X : VectorSet) → ((l : ℕ) → l < 2 ^ t → IsBounded t (residual X l)) → IsBounded t X
bounded-by-residuals t X each =
    let P : ℕ → ℕ → Type 0 = λ l B. ((z : Vector) → length z ≡ t → residual X l z → AreAtMost B z) in
    let (B, all) = one-bound P (λ l B C le at. λ z len h. at-most-more B C le z (at z len h)) (2 ^ t) each in (
      2 * B + 1,
      λ z len h.
          let is = doubled_plus-halves z in
          let letter = subst (λ (n : ℕ). parities z < 2 ^ n) len (parities-letter z) in
          subst (AreAtMost (2 * B + 1)) is (at-most-doubled B (parities z) (halves z) (all (parities z) letter (halves z) (length-halves z ∙ len) (subst X (sym is) h))),
    )

-- the sum of sizes is bounded
abbrev pub total : ℕ → ℕ → ℕ
total zero B = 0
total (suc t) B = B + total t B

pub size-total : (t B : ℕ) (z : Vector) → length z ≡ t → AreAtMost B z → size z ≤ total t B
size-total t B [] len all = omega arith
size-total zero B (x ∷ z) len all = absurd (omega arith)
size-total (suc t) B (x ∷ z) len all = omega (arith, once x all.0, size-total t B z (omega arith) all.1)
  where
    once : (x : ℤ) → unsigned_abs x ≤ B → distance x ≤ B
    once (pos n) h = omega arith
    once (negsuc n) h = omega arith
