-- Vectors without their first digits.
use Rattle.std.proofs.Common.{◌≡◌, ◌⊎◌, inl, inr, ℕ, zero, suc, ◌+◌, ◌*◌, ◌/◌, ◌^◌, ◌<◌, ◌≤◌, [], ◌∷◌, length, get_or, refl, ap, sym, ◌∙◌, add-one, arith}
use Rattle.std.specs.Prelude.{ℤ, pos, negsuc, FitsSigned}
use Rattle.std.specs.Int.{w128, int_shr, int_div_euclid}
use Rattle.std.proofs.Math.Pow.{pow_mono}
use Rattle.std.proofs.Math.Nat.{div-div-eq-div-mul}
use Rattle.pt_sets.specs.Words.{Vector, AreSigns, parities, halves}
use Rattle.pt_sets.proofs.Halving.{parities-letter}
use Rattle.pt_query.specs.Shifting.{shifted}

-- 0 or -1
abbrev pub IsSign : ℤ → Type 0
IsSign x = (x ≡ pos 0) ⊎ (x ≡ negsuc 0)

pub signs-at : (k j : ℕ) (z : Vector) (d : ℤ) → j < length z → AreSigns (shifted k z) → IsSign (int_shr (get_or z j d) k)
signs-at k j [] d h signs = absurd (omega arith)
signs-at k zero (x ∷ z) d h signs = signs.0
signs-at k (suc j) (x ∷ z) d h signs = signs-at k j z d (omega arith) signs.1

pub signs-from : (k : ℕ) (z : Vector) (d : ℤ) → ((j : ℕ) → j < length z → IsSign (int_shr (get_or z j d) k)) → AreSigns (shifted k z)
signs-from k [] d each = tt
signs-from k (x ∷ z) d each = (each 0 (omega arith), signs-from k z d (λ j h. each (suc j) (omega arith)))

-- behind 127 digits only signs are left
pub sign-at_last : (x : ℤ) → FitsSigned w128 x → IsSign (int_shr x 127)
sign-at_last (pos n) fits = inl (ap pos (omega arith))
sign-at_last (negsuc n) fits = inr (ap negsuc (omega arith))

pub length-shifted : (k : ℕ) (z : Vector) → length (shifted k z) ≡ length z
length-shifted k [] = refl
length-shifted k (x ∷ z) = ap suc (length-shifted k z)

pub shifted-none : (z : Vector) → shifted 0 z ≡ z
shifted-none [] = refl
shifted-none (x ∷ z) = ap (λ (y : ℤ). y ∷ shifted 0 z) (once x) ∙ ap (λ (u : Vector). x ∷ u) (shifted-none z)
  where
    once : (x : ℤ) → int_shr x 0 ≡ x
    once (pos n) = ap pos (omega arith)
    once (negsuc n) = ap negsuc (omega arith)

pub halves-shifted : (k : ℕ) (z : Vector) → halves (shifted k z) ≡ shifted (k + 1) z
halves-shifted k [] = refl
halves-shifted k (x ∷ z) = ap (λ (y : ℤ). y ∷ halves (shifted k z)) (once x) ∙ ap (λ (u : Vector). int_shr x (k + 1) ∷ u) (halves-shifted k z)
  where
    step : (n : ℕ) → n / 2 ^ k / 2 ≡ n / 2 ^ (k + 1)
    step n = let twice : 2 ^ k * 2 ≡ 2 ^ suc k = omega arith in let more : 2 ^ suc k ≡ 2 ^ (k + 1) = ap (λ (m : ℕ). 2 ^ m) (sym (add-one k)) in div-div-eq-div-mul n (2 ^ k) 2 ∙ ap (λ (m : ℕ). n / m) (twice ∙ more)

    once : (x : ℤ) → int_div_euclid (int_shr x k) (pos 2) ≡ int_shr x (k + 1)
    once (pos n) = ap pos (step n)
    once (negsuc n) = ap negsuc (step n)

-- at most ten tracks make at most ten bits
pub parities-small : (z : Vector) → length z ≤ 10 → parities z < 2 ^ 10
parities-small z h = let small = parities-letter z in let le = pow_mono {i = length z} {j = 10} h in omega arith
