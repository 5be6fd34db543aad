-- The vector of a word of at most 128 letters fits 128 bits.
use Rattle.std.proofs.Common.{◌≡◌, ℕ, zero, suc, ◌+◌, ◌*◌, ◌/◌, ◌%◌, ◌^◌, ◌<◌, ◌≤◌, List, [], ◌∷◌, length, refl, sym, subst, arith}
use Rattle.std.specs.Prelude.{ℤ, pos, negsuc, ◌+ℤ◌, ◌*ℤ◌, neg_ℤ, FitsSigned}
use Rattle.std.specs.Int.{w128}
use Rattle.std.specs.List.{AllByRecursion}
use Rattle.std.proofs.Math.Pow.{pow_mono}
use Rattle.std.proofs.lemmas.Int.{ints}
use Rattle.pt_sets.specs.Words.{Vector, doubled_plus, sign_vector, value}
use Rattle.pt_sets.proofs.Halving.{distance}
use Rattle.pt_digits.specs.Fits.{FitsAll}

-- each component is at most so far from 0 or -1
abbrev IsNear : ℕ → Vector → Type 0
IsNear m z = AllByRecursion (λ x. distance x < m) z

near-sign : (t s : ℕ) → IsNear 1 (sign_vector t s)
near-sign zero s = tt
near-sign (suc t) s = (once (s % 2) (omega arith), near-sign t (s / 2))
  where
    once : (d : ℕ) → d < 2 → distance (neg_ℤ (pos d)) < 1
    once zero h = omega arith
    once (suc zero) h = omega arith
    once (suc (suc d)) h = absurd (omega arith)

near-doubled : (m a : ℕ) (z : Vector) → IsNear m z → IsNear (2 * m) (doubled_plus a z)
near-doubled m a [] near = tt
near-doubled m a (x ∷ z) near = (once x (a % 2) (omega arith) near.0, near-doubled m (a / 2) z near.1)
  where
    once : (x : ℤ) (d : ℕ) → d < 2 → distance x < m → distance (pos 2 *ℤ x +ℤ pos d) < 2 * m
    once (pos n) d small h = omega arith
    once (negsuc n) zero small h = let is : (pos 2 *ℤ negsuc n +ℤ pos 0) ≡ negsuc (2 * n + 1) = omega (arith, ints) in subst (λ (y : ℤ). distance y < 2 * m) (sym is) (omega arith)
    once (negsuc n) (suc zero) small h = let is : (pos 2 *ℤ negsuc n +ℤ pos 1) ≡ negsuc (2 * n) = omega (arith, ints) in subst (λ (y : ℤ). distance y < 2 * m) (sym is) (omega arith)
    once (negsuc n) (suc (suc d)) small h = absurd (omega arith)

near-value : (t k : ℕ) (w : List ℕ) → length w ≡ suc k → IsNear (2 ^ k) (value t w)
near-value t k [] len = absurd (omega arith)
near-value t zero (s ∷ []) len = near-sign t s
near-value t (suc k) (s ∷ []) len = absurd (omega arith)
near-value t zero (a ∷ b ∷ w) len = absurd (omega arith)
near-value t (suc k) (a ∷ b ∷ w) len = let twice : 2 * 2 ^ k ≡ 2 ^ suc k = omega arith in subst (λ (m : ℕ). IsNear m (value t (a ∷ b ∷ w))) twice (near-doubled (2 ^ k) a (value t (b ∷ w)) (near-value t k (b ∷ w) (omega arith)))

near-fits : (m : ℕ) (z : Vector) → m ≤ 2 ^ 127 → IsNear m z → FitsAll z
near-fits m [] le near = tt
near-fits m (x ∷ z) le near = (once x near.0, near-fits m z le near.1)
  where
    once : (x : ℤ) → distance x < m → FitsSigned w128 x
    once (pos n) h = omega arith
    once (negsuc n) h = omega arith

pub short-fits : (t : ℕ) (w : List ℕ) → 0 < length w → length w ≤ 128 → FitsAll (value t w)
short-fits t [] some few = absurd (omega arith)
short-fits t (a ∷ w) some few =
    let le = pow_mono {i = length w} {j = 127} (omega arith) in
    near-fits (2 ^ length w) (value t (a ∷ w)) le (near-value t (length w) (a ∷ w) refl)
