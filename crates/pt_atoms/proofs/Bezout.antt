-- The greatest common divisor of a list is one of its sums.
use Rattle.std.proofs.Common.{ℕ, zero, suc, ◌/◌, ◌%◌, ◌≤◌, ◌≡◌, List, [], ◌∷◌, length, ap, sym, ◌∙◌, refl, arith}
use Rattle.std.proofs.lemmas.Int.{ints}
use Rattle.std.specs.Prelude.{ℤ, pos, negsuc, ◌+ℤ◌, ◌-ℤ◌, ◌*ℤ◌, neg_ℤ, unsigned_abs}
use Rattle.std.specs.Int.{◌∣◌}
use Rattle.std.specs.List.{AllByRecursion}
use Rattle.std.proofs.lemmas.Nat.Gcd.{dvd_refl, dvd-zero, dvd_trans, dvd_antisymm}
use native.Mathlib.Nat.{dvd-mod_iff, eq-one_of_dvd-one}
use lib.IntN.{*ℤ_comm}
use Rattle.pt_atoms.proofs.Ring.{mul_add, add_mul, mul_assoc, mul_neg, neg_mul, mul_one, zero_mul}
use Rattle.pt_atoms.proofs.SumLemmas.{scaled, length-scaled, dot-scaled}
use Rattle.pt_atoms.proofs.Residues.{congruent_refl, congruent_mul, congruent_add, congruent_from_dvd, dvd_from_congruent}
use Rattle.pt_atoms.specs.Sums.{dot, Congruent, IsGcdOf}

-- u a + v b divides a and b
pub record Combination (a b : ℕ) : Type 0 where
  pub g : ℕ
  pub u : ℤ
  pub v : ℤ
  pub sum : u *ℤ pos a +ℤ v *ℤ pos b ≡ pos g
  pub first : g ∣ a
  pub second : g ∣ b

one_step : (u v p q r b a : ℤ) → u *ℤ b +ℤ v *ℤ r ≡ p → a ≡ q *ℤ b +ℤ r → v *ℤ a +ℤ (u -ℤ v *ℤ q) *ℤ b ≡ p
one_step u v p q r b a e f =
    let e1 = ap (λ s. v *ℤ s) f in
    let e2 = mul_add v (q *ℤ b) r in
    let e3 = add_mul u (neg_ℤ (v *ℤ q)) b in
    let e4 = mul_assoc v q b in
    omega (arith, ints, e, f, e1, e2, e3, e4, neg_mul (v *ℤ q) b)

-- Euclid's algorithm in at most k + 1 steps
pub combination : (k a b : ℕ) → b ≤ k → Combination a b
combination k a zero h = record { g = a; u = pos 1; v = pos 0; sum = omega (arith, ints); first = dvd_refl a; second = dvd-zero a }
combination zero a (suc b) h = absurd (omega arith)
combination (suc k) a (suc b) h =
    let c = combination k (suc b) (a % suc b) (omega arith) in
    record {
      g = c.g;
      u = c.v;
      v = c.u -ℤ c.v *ℤ pos (a / suc b);
      sum = one_step c.u c.v (pos c.g) (pos (a / suc b)) (pos (a % suc b)) (pos (suc b)) (pos a) c.sum (omega (arith, ints));
      first = (dvd-mod_iff c.g c.first).0 c.second;
      second = c.first;
    }

-- a sum of the numbers that divides each of them
pub record Greatest (cs : List ℤ) : Type 0 where
  pub g : ℕ
  pub z : List ℤ
  pub size : length z ≡ length cs
  pub sum : dot cs z ≡ pos g
  pub divides : AllByRecursion (λ a. g ∣ unsigned_abs a) cs

-- u with u a = v |a|
signed_factor : (a v : ℤ) → (u : ℤ) × (a *ℤ u ≡ v *ℤ pos (unsigned_abs a))
signed_factor (pos n) v = (v, *ℤ_comm (pos n) v)
signed_factor (negsuc n) v = (neg_ℤ v, mul_neg (negsuc n) v ∙ ap neg_ℤ (*ℤ_comm (negsuc n) v) ∙ sym (mul_neg v (negsuc n)))

divides_all : (g d : ℕ) (cs : List ℤ) → g ∣ d → AllByRecursion (λ a. d ∣ unsigned_abs a) cs → AllByRecursion (λ a. g ∣ unsigned_abs a) cs
divides_all g d [] h k = tt
divides_all g d (a ∷ cs) h k = (dvd_trans g h k.0, divides_all g d cs h k.1)

pub greatest : (cs : List ℤ) → Greatest cs
greatest [] = record { g = 0; z = []; size = refl; sum = refl; divides = tt }
greatest (a ∷ cs) =
    let r = greatest cs in
    let c = combination r.g (unsigned_abs a) r.g (omega arith) in
    let u = signed_factor a c.u in
    record {
      g = c.g;
      z = u.0 ∷ scaled c.v r.z;
      size = ap suc (length-scaled c.v r.z ∙ r.size);
      sum = ap (λ s. a *ℤ u.0 +ℤ s) (dot-scaled cs c.v r.z ∙ ap (λ s. c.v *ℤ s) r.sum) ∙ ap (λ s. s +ℤ c.v *ℤ pos r.g) u.1 ∙ c.sum;
      divides = (c.first, divides_all c.g r.g cs c.second r.divides);
    }

-- Bezout: where the numbers have no common divisor but 1, each integer is one of their sums
pub solution : (cs : List ℤ) → IsGcdOf 1 cs → (c : ℤ) → (z : List ℤ) × (length z ≡ length cs) × (dot cs z ≡ c)
solution cs h c =
    let r = greatest cs in
    let one : r.g ≡ 1 = eq-one_of_dvd-one (h.greatest r.g r.divides) in
    (scaled c r.z, length-scaled c r.z ∙ r.size, dot-scaled cs c r.z ∙ ap (λ s. c *ℤ s) (r.sum ∙ ap pos one) ∙ mul_one c)

-- ---- each list has one greatest common divisor
-- a common divisor of the numbers divides each of their sums
sum_divided : (d : ℕ) (cs z : List ℤ) → AllByRecursion (λ a. d ∣ unsigned_abs a) cs → Congruent d (dot cs z) (pos 0)
sum_divided d [] z h = congruent_refl d (pos 0)
sum_divided d (a ∷ cs) [] h = congruent_refl d (pos 0)
sum_divided d (a ∷ cs) (x ∷ z) h =
    let first = congruent_mul d a (pos 0) x (congruent_from_dvd d a h.0) in
    let more = sum_divided d cs z h.1 in
    let whole = congruent_add d (a *ℤ x) (pos 0 *ℤ x) (dot cs z) (pos 0) first more in
    (whole.0, let e = whole.1 in let o = zero_mul x in omega (arith, ints, e, o))

pub some_gcd : (cs : List ℤ) → (g : ℕ) × IsGcdOf g cs
some_gcd cs =
    let r = greatest cs in (
      r.g,
      record {
        divides = r.divides;
        greatest = λ d h. dvd_from_congruent d (pos r.g) (let k = sum_divided d cs r.z h in (k.0, let e = k.1 in let f = r.sum in omega (arith, ints, e, f)));
      },
    )

pub same_gcd : (g h : ℕ) (cs : List ℤ) → IsGcdOf g cs → IsGcdOf h cs → g ≡ h
same_gcd g h cs p q = dvd_antisymm (q.greatest g p.divides) (p.greatest h q.divides)
