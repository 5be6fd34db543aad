-- Congruence, residues and halves.
use Rattle.std.proofs.Common.{ℕ, zero, suc, ◌*◌, ◌/◌, ◌%◌, ◌-◌, ◌<◌, ◌≡◌, ◌==◌, ◌↔◌, IsTrue, true, false, List, [], ◌∷◌, map, ap, sym, ◌∙◌, refl, subst, arith}
use Rattle.std.proofs.lemmas.Int.{ints}
use Rattle.std.proofs.lemmas.Bool.Decides.{nat_tests}
use Rattle.std.specs.Prelude.{ℤ, pos, negsuc, ◌+ℤ◌, ◌-ℤ◌, ◌*ℤ◌, neg_ℤ, ◌≤ℤ◌, unsigned_abs}
use Rattle.std.specs.Int.{◌∣◌}
use Rattle.std.proofs.lemmas.Int.{unsigned_abs-mul}
use native.Mathlib.Nat.{mul-div_cancel', dvd-mul_right}
use Rattle.pt_atoms.proofs.Ring.{mul_add, add_mul, mul_assoc, mul_neg, mul_zero}
use Rattle.pt_atoms.specs.Sums.{dot, Congruent}
use Rattle.pt_atoms.specs.Atoms.{residue, is_even, half}
use Rattle.pt_atoms.specs.Numbers.{IsResidue}

pub congruent_refl : (m : ℕ) (a : ℤ) → Congruent m a a
congruent_refl m a = (pos 0, let z = mul_zero (pos m) in omega (arith, ints, z))

pub congruent_sym : (m : ℕ) (a b : ℤ) → Congruent m a b → Congruent m b a
congruent_sym m a b h = (neg_ℤ h.0, let n = mul_neg (pos m) h.0 in let e = h.1 in omega (arith, ints, n, e))

pub congruent_trans : (m : ℕ) (a b c : ℤ) → Congruent m a b → Congruent m b c → Congruent m a c
congruent_trans m a b c h k = (h.0 +ℤ k.0, let n = mul_add (pos m) h.0 k.0 in let e = h.1 in let f = k.1 in omega (arith, ints, n, e, f))

pub congruent_add : (m : ℕ) (a b c d : ℤ) → Congruent m a b → Congruent m c d → Congruent m (a +ℤ c) (b +ℤ d)
congruent_add m a b c d h k = (h.0 +ℤ k.0, let n = mul_add (pos m) h.0 k.0 in let e = h.1 in let f = k.1 in omega (arith, ints, n, e, f))

pub congruent_mul : (m : ℕ) (a b c : ℤ) → Congruent m a b → Congruent m (a *ℤ c) (b *ℤ c)
congruent_mul m a b c h = (
  h.0 *ℤ c,
  let e = ap (λ s. s *ℤ c) h.1 in
      let f = add_mul b (pos m *ℤ h.0) c in
      let g = mul_assoc (pos m) h.0 c in
      omega (arith, ints, e, f, g),
)

-- modulo a multiple, and so modulo the number
pub congruent_by : (m n q : ℕ) (a b : ℤ) → m ≡ n * q → Congruent m a b → Congruent n a b
congruent_by m n q a b e h = (
  pos q *ℤ h.0,
  let f = h.1 in
      let g = mul_assoc (pos n) (pos q) h.0 in
      let k : pos m *ℤ h.0 ≡ (pos n *ℤ pos q) *ℤ h.0 = ap (λ s. pos s *ℤ h.0) e in
      omega (arith, ints, f, g, k),
)

-- ---- residues
pub residue_is : (m : ℕ) (r : ℤ) → 0 < m → IsResidue m (residue m r)
residue_is m (pos a) h = (a % m, refl, omega arith)
residue_is m (negsuc a) h = (m - 1 - a % m, refl, omega arith)

pub residue_congruent : (m : ℕ) (r : ℤ) → 0 < m → Congruent m r (residue m r)
residue_congruent m (pos a) h = (pos (a / m), omega (arith, ints))
residue_congruent m (negsuc a) h = (negsuc (a / m), omega (arith, ints))

-- two residues that are congruent are equal
near : (m r s : ℕ) (k : ℤ) → r < m → s < m → pos r ≡ pos s +ℤ pos m *ℤ k → r ≡ s
near m r s (pos zero) h j e = omega (arith, ints, e)
near m r s (pos (suc k)) h j e = absurd (omega (arith, ints, e))
near m r s (negsuc k) h j e = absurd (omega (arith, ints, e))

pub residue_unique : (m : ℕ) (a b : ℤ) → IsResidue m a → IsResidue m b → Congruent m a b → a ≡ b
residue_unique m a b h k e =
    h.1 ∙ ap pos (near m h.0 k.0 e.0 h.2 k.2 (sym h.1 ∙ e.1 ∙ ap (λ s. s +ℤ pos m *ℤ e.0) k.1)) ∙ sym k.1

-- the sum of coefficients modulo m
pub dot-residues : (m : ℕ) (cs z : List ℤ) → 0 < m → Congruent m (dot cs z) (dot (map (residue m) cs) z)
dot-residues m [] z h = congruent_refl m (pos 0)
dot-residues m (a ∷ cs) [] h = congruent_refl m (pos 0)
dot-residues m (a ∷ cs) (x ∷ z) h = congruent_add m _ _ _ _ (congruent_mul m _ _ x (residue_congruent m a h)) (dot-residues m cs z h)

-- ---- halves
pub half_even : (r : ℤ) → is_even r ≡ true → r ≡ pos 2 *ℤ half r
half_even (pos n) e = grind (arith, ints, nat_tests)
half_even (negsuc n) e = grind (arith, ints, nat_tests)

pub half_odd : (r : ℤ) → is_even r ≡ false → r ≡ pos 2 *ℤ half r +ℤ pos 1
half_odd (pos n) e = grind (arith, ints, nat_tests)
half_odd (negsuc n) e = grind (arith, ints, nat_tests)

pub half_down : (r : ℤ) → ((pos 2 *ℤ half r) ≤ℤ r) × (r ≤ℤ (pos 2 *ℤ half r +ℤ pos 1))
half_down (pos n) = (omega (arith, ints), omega (arith, ints))
half_down (negsuc n) = (omega (arith, ints), omega (arith, ints))

-- ---- divisors of integers
pub congruent_from_dvd : (d : ℕ) (a : ℤ) → d ∣ unsigned_abs a → Congruent d a (pos 0)
congruent_from_dvd d (pos n) h = (pos (n / d), let e = mul-div_cancel' d h in omega (arith, ints, e))
congruent_from_dvd d (negsuc n) h = (
  neg_ℤ (pos (suc n / d)),
  let e : d * (suc n / d) ≡ suc n = mul-div_cancel' d h in
      let f = mul_neg (pos d) (pos (suc n / d)) in
      omega (arith, ints, e, f),
)

pub dvd_from_congruent : (d : ℕ) (a : ℤ) → Congruent d a (pos 0) → d ∣ unsigned_abs a
dvd_from_congruent d a h =
    let e : a ≡ pos d *ℤ h.0 = (let f = h.1 in omega (arith, ints, f)) in
    let g : unsigned_abs a ≡ d * unsigned_abs h.0 = ap unsigned_abs e ∙ unsigned_abs-mul (pos d) h.0 in
    subst (λ (n : ℕ). d ∣ n) (sym g) (dvd-mul_right d (unsigned_abs h.0))

-- the test by the residue of a difference
pub congruent_test : (m n : ℕ) (a b : ℤ) → 0 < m → pos n ≡ residue m (a -ℤ b) → IsTrue (n == 0) ↔ Congruent m a b
congruent_test m n a b above e =
    let near = residue_congruent m (a -ℤ b) above in (
      λ t.
          let none : n ≡ 0 = grind (arith, nat_tests, t) in
          (near.0, let f = near.1 in omega (arith, ints, e, f, none)),
      λ h.
          let back : Congruent m (pos 0) (residue m (a -ℤ b)) = congruent_trans m _ _ _ (congruent_sym m _ _ (h.0, let f = h.1 in omega (arith, ints, f))) near in
          let same : pos 0 ≡ residue m (a -ℤ b) = residue_unique m _ _ (0, refl, above) (residue_is m (a -ℤ b) above) back in
          let none : 0 ≡ n = omega (arith, ints, same, e) in
          subst (λ (k : ℕ). IsTrue (k == 0)) none refl,
    )
