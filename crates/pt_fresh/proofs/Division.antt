-- Euclid's division of integers: there is exactly one quotient and remainder.
use Rattle.std.proofs.Common.{◌≡◌, ◌≢◌, ◌↔◌, ◌⊎◌, inl, inr, ℕ, zero, suc, ◌+◌, ◌*◌, ◌/◌, ◌%◌, ◌<◌, arith, refl, ap, sym, ◌∙◌}
use Rattle.std.proofs.lemmas.Int.{ints, unsigned_abs-mul}
use Rattle.std.proofs.Math.Nat.{div-add-mod, mod-lt}
use Rattle.std.proofs.Math.IntN.{*ℤ_comm}
use Rattle.std.specs.Prelude.{ℤ, pos, negsuc, neg_ℤ, ◌+ℤ◌, ◌-ℤ◌, ◌*ℤ◌, ◌≤ℤ◌, ◌<ℤ◌, unsigned_abs}
use Rattle.std.specs.Int.{int_rem_euclid}
use borrow.Author.Differences.{up, down, product_is, sum_is_lem, neg_is, same_in}
use Rattle.pt_fresh.specs.Integers.{IsDivision, IsQuotient, IsRemainder, Divides}

by : (c x y : ℕ) → x ≡ y → c * x ≡ c * y
by c x y e = ap (λ n. c * n) e

pub mul_add : (a b c : ℤ) → a *ℤ (b +ℤ c) ≡ a *ℤ b +ℤ a *ℤ c
mul_add a b c =
    let s = sum_is_lem b c in
    same_in _ _ (omega (arith, ints, by (up a) _ _ s, by (down a) _ _ s))

pub mul_neg : (a b : ℤ) → a *ℤ neg_ℤ b ≡ neg_ℤ (a *ℤ b)
mul_neg a b =
    let n = neg_is b in
    same_in _ _ (omega (arith, ints, by (up a) _ _ n.0, by (up a) _ _ n.1, by (down a) _ _ n.0, by (down a) _ _ n.1))

neg_mul : (a b : ℤ) → neg_ℤ a *ℤ b ≡ neg_ℤ (a *ℤ b)
neg_mul a b = *ℤ_comm (neg_ℤ a) b ∙ mul_neg b a ∙ ap neg_ℤ (*ℤ_comm b a)

-- a number is some multiple and its remainder
pub euclid : (m : ℕ) (z : ℤ) → 0 < m → (q : ℤ) × (z ≡ pos m *ℤ q +ℤ int_rem_euclid z (pos m))
euclid m (pos n) h =
    let whole = div-add-mod n m in
    let product = product_is (pos m) (pos (n / m)) in
    (pos (n / m), same_in _ _ (omega (arith, ints, product.0, product.1, whole)))
euclid m (negsuc n) h =
    let whole = div-add-mod n m in
    let small : n % m < m = mod-lt n h in
    let product = product_is (pos m) (negsuc (n / m)) in
    (negsuc (n / m), same_in _ _ (omega (arith, ints, product.0, product.1, whole)))

pub remainder_range : (m : ℕ) (z : ℤ) → 0 < m → (pos 0 ≤ℤ int_rem_euclid z (pos m)) × (int_rem_euclid z (pos m) <ℤ pos m)
remainder_range m (pos n) h = let small : n % m < m = mod-lt n h in (omega (arith, ints), omega (arith, ints))
remainder_range m (negsuc n) h = let small : n % m < m = mod-lt n h in (omega (arith, ints), omega (arith, ints))

-- a multiple that is smaller than the number is 0
pub small_multiple : (n t d : ℤ) → n *ℤ t ≡ d → unsigned_abs d < unsigned_abs n → t ≡ pos 0
small_multiple n t d e lt = sizes (unsigned_abs t) refl (sym (unsigned_abs-mul n t) ∙ ap unsigned_abs e)
  where
    sizes : (k : ℕ) → unsigned_abs t ≡ k → unsigned_abs n * unsigned_abs t ≡ unsigned_abs d → t ≡ pos 0
    sizes zero same product = omega (arith, ints)
    sizes (suc k) same product =
        let there : unsigned_abs n * suc k ≡ unsigned_abs d = ap (λ x. unsigned_abs n * x) (sym same) ∙ product in
        let more : unsigned_abs n * suc k ≡ unsigned_abs n * k + unsigned_abs n = omega arith in
        absurd (omega arith)

-- the multiples of n are those of its absolute value
pub from_size : (n k : ℤ) (m : ℕ) → m ≡ unsigned_abs n → (q : ℤ) × (n *ℤ q ≡ pos m *ℤ k)
from_size (pos x) k m e = (k, ap (λ (y : ℕ). pos y *ℤ k) (sym e))
from_size (negsuc x) k m e =
    let p = neg_mul (pos (suc x)) (neg_ℤ k) in
    let q = mul_neg (pos (suc x)) k in
    let r : pos (suc x) *ℤ k ≡ pos m *ℤ k = ap (λ (y : ℕ). pos y *ℤ k) (sym e) in
    (neg_ℤ k, omega (arith, ints, p, q, r))

pub to_size : (n q : ℤ) (m : ℕ) → m ≡ unsigned_abs n → (k : ℤ) × (n *ℤ q ≡ pos m *ℤ k)
to_size (pos x) q m e = (q, ap (λ (y : ℕ). pos y *ℤ q) (sym e))
to_size (negsuc x) q m e =
    let p = neg_mul (pos (suc x)) q in
    let r = mul_neg (pos (suc x)) q in
    let s : pos (suc x) *ℤ neg_ℤ q ≡ pos m *ℤ neg_ℤ q = ap (λ (y : ℕ). pos y *ℤ neg_ℤ q) (sym e) in
    (neg_ℤ q, omega (arith, ints, p, r, s))

pub division : (a n : ℤ) → n ≢ pos 0 → (q : ℤ) × (r : ℤ) × IsDivision a n q r
division a n other =
    let some : 0 < unsigned_abs n = not_zero n other in
    let (k, whole) = euclid (unsigned_abs n) a some in
    let (q, same) = from_size n k (unsigned_abs n) refl in
    let range = remainder_range (unsigned_abs n) a some in
    (q, int_rem_euclid a (pos (unsigned_abs n)), record { whole = whole ∙ ap (λ p. p +ℤ int_rem_euclid a (pos (unsigned_abs n))) (sym same); least = range.0; below = range.1 })
  where
    not_zero : (n : ℤ) → n ≢ pos 0 → 0 < unsigned_abs n
    not_zero (pos zero) other = absurd (other refl)
    not_zero (pos (suc x)) other = omega arith
    not_zero (negsuc x) other = omega arith

pub one_division : (a n q r s t : ℤ) → IsDivision a n q r → IsDivision a n s t → (q ≡ s) × (r ≡ t)
one_division a n q r s t x y =
    let p = mul_add n q (neg_ℤ s) in
    let m = mul_neg n s in
    let e = x.whole in
    let f = y.whole in
    let difference : n *ℤ (q +ℤ neg_ℤ s) ≡ (t -ℤ r) = omega (arith, ints, p, m, e, f) in
    let least = x.least in
    let below = x.below in
    let least' = y.least in
    let below' = y.below in
    let lt : unsigned_abs (t -ℤ r) < unsigned_abs n = omega (arith, ints, least, below, least', below') in
    let none : q +ℤ neg_ℤ s ≡ pos 0 = small_multiple n (q +ℤ neg_ℤ s) (t -ℤ r) difference lt in
    let same : q ≡ s = omega (arith, ints, none) in
    let products : n *ℤ q ≡ n *ℤ s = ap (λ z. n *ℤ z) same in
    (same, omega (arith, ints, e, f, products))

-- the inequalities by which a quotient is said
pub quotient_iff : (a n x p : ℤ) (m : ℕ) → m ≡ unsigned_abs n → p ≡ n *ℤ x → ((p ≤ℤ a) × ((a -ℤ p) ≤ℤ (pos m -ℤ pos 1))) ↔ IsQuotient a n x
quotient_iff a n x p m e s = (
  λ h.
      let low = h.0 in
      let high = h.1 in
      (a -ℤ p, record { whole = omega (arith, ints, s); least = omega (arith, ints, low); below = omega (arith, ints, e, high) }),
  λ h.
      let whole = h.1.whole in
      let least = h.1.least in
      let below = h.1.below in
      (omega (arith, ints, s, whole, least), omega (arith, ints, e, s, whole, below)),
)

pub remainder_iff : (a n v : ℤ) (m : ℕ) → m ≡ unsigned_abs n → (((pos 0 ≤ℤ v) × (v ≤ℤ (pos m -ℤ pos 1))) × Divides m (a -ℤ v)) ↔ IsRemainder a n v
remainder_iff a n v m e = (
  λ h.
      let low = h.0.0 in
      let high = h.0.1 in
      let (q, same) = from_size n h.1.0 m e in
      let multiple = h.1.1 in
      (q, record { whole = omega (arith, ints, same, multiple); least = low; below = omega (arith, ints, e, high) }),
  λ h.
      let whole = h.1.whole in
      let below = h.1.below in
      let (k, same) = to_size n h.0 m e in
      ((h.1.least, omega (arith, ints, e, below)), (k, omega (arith, ints, whole, same))),
)

pub magnitude_iff : (a v o : ℤ) → o ≡ negsuc 0 *ℤ a → ((pos 0 ≤ℤ v) × ((v ≡ a) ⊎ (v ≡ o))) ↔ (v ≡ pos (unsigned_abs a))
magnitude_iff a v o e = (λ h. elim h.1 [ inl x ↦ same a v h.0 x | inr x ↦ opposite a v o e h.0 x ], back a v o e)
  where
    same : (a v : ℤ) → pos 0 ≤ℤ v → v ≡ a → v ≡ pos (unsigned_abs a)
    same a v low x = omega (arith, ints, low, x)

    opposite : (a v o : ℤ) → o ≡ negsuc 0 *ℤ a → pos 0 ≤ℤ v → v ≡ o → v ≡ pos (unsigned_abs a)
    opposite a v o e low x = omega (arith, ints, e, low, x)

    back : (a v o : ℤ) → o ≡ negsuc 0 *ℤ a → v ≡ pos (unsigned_abs a) → (pos 0 ≤ℤ v) × ((v ≡ a) ⊎ (v ≡ o))
    back (pos n) v o e x = (omega (arith, ints, x), inl x)
    back (negsuc n) v o e x = (omega (arith, ints, x), inr (omega (arith, ints, e, x)))

-- a congruence with the residue of -c says that m divides s + c
pub divides_iff : (m : ℕ) (s c : ℤ) → 0 < m → ((k : ℤ) × (s ≡ int_rem_euclid (neg_ℤ c) (pos m) +ℤ pos m *ℤ k)) ↔ Divides m (s +ℤ c)
divides_iff m s c h =
    let (q, whole) = euclid m (neg_ℤ c) h in (
      λ x.
          let e = x.1 in
          let p = mul_add (pos m) x.0 (neg_ℤ q) in
          let n = mul_neg (pos m) q in
          (x.0 +ℤ neg_ℤ q, omega (arith, ints, e, p, n, whole)),
      λ x.
          let e = x.1 in
          let p = mul_add (pos m) x.0 q in
          (x.0 +ℤ q, omega (arith, ints, e, p, whole)),
    )

-- 0 is congruent to c exactly where c has remainder 0
pub zero_modulo : (m : ℕ) (c : ℤ) → 0 < m → (unsigned_abs (int_rem_euclid c (pos m)) ≡ 0) ↔ ((k : ℤ) × (pos 0 ≡ c +ℤ pos m *ℤ k))
zero_modulo m c h =
    let (q, whole) = euclid m c h in
    let range = remainder_range m c h in (
      λ none.
          let n = mul_neg (pos m) q in
          (neg_ℤ q, omega (arith, ints, n, whole, none)),
      λ x.
          let e = x.1 in
          let p = mul_add (pos m) q x.0 in
          let low = range.0 in
          let high = range.1 in
          let r = int_rem_euclid c (pos m) in
          let product : pos m *ℤ (q +ℤ x.0) ≡ neg_ℤ r = omega (arith, ints, e, p, whole) in
          let lt : unsigned_abs (neg_ℤ r) < unsigned_abs (pos m) = omega (arith, ints, low, high) in
          let none = small_multiple (pos m) (q +ℤ x.0) (neg_ℤ r) product lt in
          let nothing : pos m *ℤ (q +ℤ x.0) ≡ pos 0 = ap (λ z. pos m *ℤ z) none ∙ times_zero (pos m) in
          omega (arith, ints, product, nothing),
    )
  where
    times_zero : (a : ℤ) → a *ℤ pos 0 ≡ pos 0
    times_zero a = omega (arith, ints)
