-- The step from a form to its residual, over plain numbers: s is the sum at a vector, o the sum at the digits of a letter,
-- c the constant, and r = c - o.
use Rattle.std.proofs.Common.{ℕ, ◌+◌, ◌*◌, ◌/◌, ◌%◌, ◌<◌, ◌≡◌, ◌↔◌, true, false, IsTrue, ap, sym, ◌∙◌, refl, subst, arith}
use Rattle.std.proofs.lemmas.Int.{ints}
use Rattle.std.proofs.lemmas.Bool.{false≢true}
use Rattle.std.specs.Prelude.{ℤ, pos, negsuc, ◌+ℤ◌, ◌-ℤ◌, ◌*ℤ◌, ◌≤ℤ◌}
use lib.IntN.{*ℤ_comm}
use Rattle.pt_atoms.proofs.Ring.{mul_add, add_mul, mul_assoc}
use Rattle.pt_atoms.proofs.Residues.{congruent_refl, congruent_sym, congruent_trans, congruent_add, congruent_mul, residue_is, residue_unique, residue_congruent, half_even, half_odd, half_down}
use Rattle.pt_atoms.specs.Sums.{Congruent}
use Rattle.pt_atoms.specs.Atoms.{residue, is_even, half, half_modulo}

pub equation_even : (s o c r : ℤ) → r ≡ c -ℤ o → is_even r ≡ true → (s ≡ half r) ↔ (pos 2 *ℤ s +ℤ o ≡ c)
equation_even s o c r e t = let h = half_even r t in (λ f. omega (arith, ints, e, h, f), λ f. omega (arith, ints, e, h, f))

pub equation_odd : (s o c r : ℤ) → r ≡ c -ℤ o → is_even r ≡ false → IsTrue false ↔ (pos 2 *ℤ s +ℤ o ≡ c)
equation_odd s o c r e t = let h = half_odd r t in (λ f. absurd (false≢true f), λ f. absurd (omega (arith, ints, e, h, f)))

pub inequality_half : (s o c r : ℤ) → r ≡ c -ℤ o → (s ≤ℤ half r) ↔ ((pos 2 *ℤ s +ℤ o) ≤ℤ c)
inequality_half s o c r e =
    let low = (half_down r).0 in
    let high = (half_down r).1 in
    (λ f. omega (arith, ints, e, low, high, f), λ f. omega (arith, ints, e, low, high, f))

-- 2 times the half modulo an odd number
twice : (m h : ℕ) (r : ℤ) → 2 * h ≡ m + 1 → Congruent m (pos 2 *ℤ (pos h *ℤ r)) r
twice m h r e = (
  r,
  let f = mul_assoc (pos 2) (pos h) r in
      let g : (pos 2 *ℤ pos h) *ℤ r ≡ pos (m + 1) *ℤ r = ap (λ k. pos k *ℤ r) e in
      let k = add_mul (pos m) (pos 1) r in
      omega (arith, ints, f, g, k),
)

pub congruence_odd : (m : ℕ) (s o c r : ℤ) → r ≡ c -ℤ o → m % 2 ≡ 1 → Congruent m s (half_modulo m r) ↔ Congruent m (pos 2 *ℤ s +ℤ o) c
congruence_odd m s o c r e t =
    let h : ℕ = (m + 1) / 2 in
    let whole : 2 * ((m + 1) / 2) ≡ m + 1 = omega arith in
    let above : 0 < m = omega arith in
    let reduced : Congruent m (pos h *ℤ r) (half_modulo m r) = residue_congruent m (pos h *ℤ r) above in
    let back : c ≡ r +ℤ o = omega (arith, ints, e) in (
      λ f.
          let a : Congruent m s (pos h *ℤ r) = congruent_trans m _ _ _ f (congruent_sym m _ _ reduced) in
          let b : Congruent m (s *ℤ pos 2) ((pos h *ℤ r) *ℤ pos 2) = congruent_mul m s (pos h *ℤ r) (pos 2) a in
          let b' : Congruent m (pos 2 *ℤ s) (pos 2 *ℤ (pos h *ℤ r)) = subst (λ (x : ℤ). Congruent m x (pos 2 *ℤ (pos h *ℤ r))) (*ℤ_comm s (pos 2)) (subst (λ (x : ℤ). Congruent m (s *ℤ pos 2) x) (*ℤ_comm (pos h *ℤ r) (pos 2)) b) in
          let d : Congruent m (pos 2 *ℤ s) r = congruent_trans m _ _ _ b' (twice m h r whole) in
          subst (λ (x : ℤ). Congruent m (pos 2 *ℤ s +ℤ o) x) (sym back) (congruent_add m _ _ _ _ d (congruent_refl m o)),
      λ f.
          let d : Congruent m (pos 2 *ℤ s) r = (f.0, let g = f.1 in omega (arith, ints, e, g)) in
          let a : Congruent m ((pos 2 *ℤ s) *ℤ pos h) (r *ℤ pos h) = congruent_mul m _ _ (pos h) d in
          let order : (pos 2 *ℤ s) *ℤ pos h ≡ pos 2 *ℤ (pos h *ℤ s) = mul_assoc (pos 2) s (pos h) ∙ ap (λ x. pos 2 *ℤ x) (*ℤ_comm s (pos h)) in
          let a' : Congruent m (pos 2 *ℤ (pos h *ℤ s)) (pos h *ℤ r) = subst (λ (x : ℤ). Congruent m x (pos h *ℤ r)) order (subst (λ (x : ℤ). Congruent m ((pos 2 *ℤ s) *ℤ pos h) x) (*ℤ_comm r (pos h)) a) in
          congruent_trans m _ _ _ (congruent_sym m _ _ (twice m h s whole)) (congruent_trans m _ _ _ a' reduced),
    )

pub congruence_even : (n : ℕ) (s o c r : ℤ) → r ≡ c -ℤ o → is_even r ≡ true → Congruent n s (half r) ↔ Congruent (2 * n) (pos 2 *ℤ s +ℤ o) c
congruence_even n s o c r e t =
    let h = half_even r t in (
      λ f. (f.0, let g = f.1 in let k = mul_assoc (pos 2) (pos n) f.0 in omega (arith, ints, e, h, g, k)),
      λ f. (f.0, let g = f.1 in let k = mul_assoc (pos 2) (pos n) f.0 in omega (arith, ints, e, h, g, k)),
    )

pub congruence_none : (n : ℕ) (s o c r : ℤ) → r ≡ c -ℤ o → is_even r ≡ false → IsTrue false ↔ Congruent (2 * n) (pos 2 *ℤ s +ℤ o) c
congruence_none n s o c r e t =
    let h = half_odd r t in (
      λ f. absurd (false≢true f),
      λ f. absurd (let g = f.1 in let k = mul_assoc (pos 2) (pos n) f.0 in omega (arith, ints, e, h, g, k)),
    )

-- a residue whose double is congruent to r is the half of r
pub half_modulo_is : (m x : ℕ) (r : ℤ) → m % 2 ≡ 1 → x < m → Congruent m (pos 2 *ℤ pos x) r → pos x ≡ half_modulo m r
half_modulo_is m x r odd below h =
    let above : 0 < m = omega arith in
    let both = congruence_odd m (pos x) (pos 0) r r (omega (arith, ints)) odd in
    let sum : Congruent m (pos 2 *ℤ pos x +ℤ pos 0) r = (h.0, let e = h.1 in omega (arith, ints, e)) in
    residue_unique m _ _ (x, refl, below) (residue_is m (pos ((m + 1) / 2) *ℤ r) above) (both.1 sum)

pub half_of_even_rest : (m s : ℕ) (r : ℤ) → m % 2 ≡ 1 → s < m → pos s ≡ residue m r → s % 2 ≡ 0 → pos (s / 2) ≡ half_modulo m r
half_of_even_rest m s r odd below e even =
    let above : 0 < m = omega arith in
    let near = residue_congruent m r above in
    half_modulo_is m (s / 2) r odd (omega arith) (congruent_sym m _ _ (near.0, let f = near.1 in omega (arith, ints, e, f)))

pub half_of_odd_rest : (m s : ℕ) (r : ℤ) → m % 2 ≡ 1 → s < m → pos s ≡ residue m r → (s % 2 ≡ 0 → ⊥) → pos ((s + m) / 2) ≡ half_modulo m r
half_of_odd_rest m s r odd below e not_even =
    let above : 0 < m = omega arith in
    let near = residue_congruent m r above in
    let whole : 2 * ((s + m) / 2) ≡ s + m = omega arith in
    half_modulo_is m ((s + m) / 2) r odd (omega arith)
    (congruent_sym m _ _ (
      near.0 -ℤ pos 1,
      let f = near.1 in
          let g = mul_add (pos m) near.0 (negsuc 0) in
          omega (arith, ints, e, f, g, whole),
    ))
