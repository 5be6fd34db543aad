-- The normal form of an atom is a normal form with the atom's set.
use Rattle.std.proofs.Common.{ℕ, ◌-◌, ◌*◌, ◌/◌, ◌^◌, ◌<◌, ◌≤◌, ◌≡◌, ◌↔◌, ◌==◌, if◌then◌else◌, Bool, true, false, IsTrue, List, [], ◌∷◌, length, map, ap, sym, ◌∙◌, refl, subst, arith}
use Rattle.std.proofs.lemmas.Int.{ints, unsigned_abs-mul}
use Rattle.std.proofs.lemmas.Bool.{false≢true}
use Rattle.std.proofs.lemmas.Bool.Decides.{nat_tests}
use Rattle.std.proofs.lemmas.List.{length-map, length-replicate}
use Rattle.std.proofs.lemmas.Nat.{div_below}
use native.Mathlib.Nat.{mul-div_cancel', dvd-mul_right, mul-dvd-mul_left, dvd_of_mul-dvd-mul_left, mod-eq-zero_of_dvd, dvd_of_mod-eq-zero, eq-zero_of_zero-dvd, pos_of_dvd_of_pos}
use Rattle.std.specs.Prelude.{ℤ, pos, negsuc, ◌+ℤ◌, ◌-ℤ◌, ◌*ℤ◌, neg_ℤ, ◌≤ℤ◌, unsigned_abs, int_le}
use Rattle.std.specs.Int.{◌∣◌}
use Rattle.std.specs.List.{AllByRecursion}
use Rattle.pt_atoms.proofs.Ring.{mul_add, mul_assoc, mul_neg, zero_mul, mul_zero}
use Rattle.pt_atoms.proofs.Residues.{congruent_sym, congruent_trans, congruent_from_dvd, residue_is, residue_congruent, residue_unique, dot-residues}
use Rattle.pt_atoms.proofs.Steps.{zeros, zeros_coefficients, residues_of, residues_coefficients, one_divides, residue_constant}
use Rattle.pt_atoms.specs.Sums.{dot, Congruent, IsGcdOf}
use Rattle.pt_atoms.specs.Atoms.{NormalSet, Compares, IsInRange, IsInRangeFor, IsNormalFormAt, IsAtom, IsModulus, IsNormalFormOf, IsNormal, residue, quotient, divides, always, normal_at, numbers_of, IsReduced}
use Rattle.pt_atoms.specs.Numbers.{IsResidue, IsCoefficient, IsConstant}
use Rattle.pt_atoms.specs.declared.Kind.{Kind}
use Rattle.pt_atoms.specs.declared.Kind.TheVariants.{Eq, Le, Mod}
use Rattle.pt_atoms.specs.declared.Atom.{Atom}
use Rattle.pt_atoms.specs.declared.NormalKind.TheVariants.{Eq as Equals, Le as AtMost, Mod as Modulo}
use Rattle.pt_atoms.specs.declared.Normal.{Normal}

-- ---- quotients
euclid : (g : ℕ) (a : ℤ) → 0 < g → a ≡ residue g a +ℤ pos g *ℤ quotient g a
euclid g (pos a) h = omega (arith, ints)
euclid g (negsuc a) h = omega (arith, ints)

exact : (g : ℕ) (a : ℤ) → 0 < g → g ∣ unsigned_abs a → a ≡ pos g *ℤ quotient g a
exact g a h d =
    let none : residue g a ≡ pos 0 = residue_unique g _ _ (residue_is g a h) (0, refl, h) (congruent_trans g _ _ (pos 0) (congruent_sym g _ _ (residue_congruent g a h)) (congruent_from_dvd g a d)) in
    let whole = euclid g a h in
    omega (arith, ints, none, whole)

dot-quotients : (g : ℕ) (cs z : List ℤ) → 0 < g → AllByRecursion (λ a. g ∣ unsigned_abs a) cs → dot cs z ≡ pos g *ℤ dot (map (quotient g) cs) z
dot-quotients g [] z h d = sym (mul_zero (pos g))
dot-quotients g (a ∷ cs) [] h d = sym (mul_zero (pos g))
dot-quotients g (a ∷ cs) (x ∷ z) h d =
    let more = dot-quotients g cs z h d.1 in
    let first : a *ℤ x ≡ pos g *ℤ (quotient g a *ℤ x) = ap (λ s. s *ℤ x) (exact g a h d.0) ∙ mul_assoc (pos g) (quotient g a) x in
    let whole = mul_add (pos g) (quotient g a *ℤ x) (dot (map (quotient g) cs) z) in
    omega (arith, ints, more, first, whole)

multiples : (g d : ℕ) (cs : List ℤ) → 0 < g → AllByRecursion (λ a. g ∣ unsigned_abs a) cs → AllByRecursion (λ a. d ∣ unsigned_abs a) (map (quotient g) cs) → AllByRecursion (λ a. (g * d) ∣ unsigned_abs a) cs
multiples g d [] h k l = tt
multiples g d (a ∷ cs) h k l =
    let e : unsigned_abs a ≡ g * unsigned_abs (quotient g a) = ap unsigned_abs (exact g a h k.0) ∙ unsigned_abs-mul (pos g) (quotient g a) in
    (subst (λ (n : ℕ). (g * d) ∣ n) (sym e) (mul-dvd-mul_left d g l.0), multiples g d cs h k.1 l.1)

gcd_divided : (g : ℕ) (cs : List ℤ) → 0 < g → IsGcdOf g cs → IsGcdOf 1 (map (quotient g) cs)
gcd_divided g cs h k = record {
  divides = one_divides (map (quotient g) cs);
  greatest = λ d l.
      let e : g * 1 ≡ g = omega arith in
      dvd_of_mul-dvd-mul_left d h (subst (λ (n : ℕ). (g * d) ∣ n) (sym e) (k.greatest (g * d) (multiples g d cs h k.divides l)));
}

quotient_small : (g m : ℕ) (a : ℤ) → 0 < g → unsigned_abs a ≤ m → unsigned_abs (quotient g a) ≤ m
quotient_small g m (pos a) h k = omega arith
quotient_small g m (negsuc a) h k = omega arith

quotients_coefficients : (g : ℕ) (cs : List ℤ) → 0 < g → AllByRecursion IsCoefficient cs → AllByRecursion IsCoefficient (map (quotient g) cs)
quotients_coefficients g [] h k = tt
quotients_coefficients g (a ∷ cs) h k = (quotient_small g (2 ^ 63) a h k.0, quotients_coefficients g cs h k.1)

-- ---- a factor is cancelled
not_negative : (g : ℕ) (d : ℤ) → 0 < g → pos 0 ≤ℤ (pos g *ℤ d +ℤ pos (g - 1)) → pos 0 ≤ℤ d
not_negative g (pos d) h k = omega (arith, ints)
not_negative g (negsuc d) h k = absurd (omega (arith, ints, k))

product_positive : (g : ℕ) (d : ℤ) → pos 0 ≤ℤ d → pos 0 ≤ℤ (pos g *ℤ d)
product_positive g (pos d) h = omega (arith, ints)
product_positive g (negsuc d) h = absurd (omega (arith, ints, h))

cancel_le : (g : ℕ) (x y : ℤ) → 0 < g → (pos g *ℤ x) ≤ℤ (pos g *ℤ y +ℤ pos (g - 1)) → x ≤ℤ y
cancel_le g x y h k =
    let e = mul_add (pos g) y (neg_ℤ x) in
    let f = mul_neg (pos g) x in
    let d : pos 0 ≤ℤ (y -ℤ x) = not_negative g (y -ℤ x) h (omega (arith, ints, e, f, k)) in
    omega (arith, ints, d)

product_mono : (g : ℕ) (x y : ℤ) → x ≤ℤ y → (pos g *ℤ x) ≤ℤ (pos g *ℤ y)
product_mono g x y h =
    let e = mul_add (pos g) y (neg_ℤ x) in
    let f = mul_neg (pos g) x in
    let d : pos 0 ≤ℤ (pos g *ℤ (y -ℤ x)) = product_positive g (y -ℤ x) (omega (arith, ints, h)) in
    omega (arith, ints, e, f, d)

cancel : (g : ℕ) (x y : ℤ) → 0 < g → pos g *ℤ x ≡ pos g *ℤ y → x ≡ y
cancel g x y h e =
    let low = cancel_le g x y h (omega (arith, ints, e)) in
    let high = cancel_le g y x h (omega (arith, ints, e)) in
    omega (arith, ints, low, high)

-- ---- each kind
divides_true : (g : ℕ) (c : ℤ) → divides g c ≡ true → g ∣ unsigned_abs c
divides_true g c e = dvd_of_mod-eq-zero g (grind (arith, nat_tests, e))

divides_false : (g : ℕ) (c : ℤ) → divides g c ≡ false → g ∣ unsigned_abs c → ⊥
divides_false g c e d = false≢true (sym e ∙ ap (λ x. x == 0) (mod-eq-zero_of_dvd g d))

equation_set : (g : ℕ) (s x c : ℤ) → 0 < g → s ≡ pos g *ℤ x → g ∣ unsigned_abs c → (x ≡ quotient g c) ↔ (s ≡ c)
equation_set g s x c h e d =
    let f = exact g c h d in
    (λ k. e ∙ ap (λ y. pos g *ℤ y) k ∙ sym f, λ k. cancel g x (quotient g c) h (sym e ∙ k ∙ f))

equation_none : (g : ℕ) (s x c : ℤ) → s ≡ pos g *ℤ x → (g ∣ unsigned_abs c → ⊥) → s ≡ c → ⊥
equation_none g s x c e n k =
    let f : unsigned_abs c ≡ g * unsigned_abs x = ap unsigned_abs (sym k ∙ e) ∙ unsigned_abs-mul (pos g) x in
    n (subst (λ (m : ℕ). g ∣ m) (sym f) (dvd-mul_right g (unsigned_abs x)))

inequality_set : (g : ℕ) (s x c : ℤ) → 0 < g → s ≡ pos g *ℤ x → (x ≤ℤ quotient g c) ↔ (s ≤ℤ c)
inequality_set g s x c h e =
    let f = euclid g c h in
    let r = residue_is g c h in
    let r_is = r.1 in
    let below = r.2 in (
      λ k. let m = product_mono g x (quotient g c) k in omega (arith, ints, e, f, r_is, m),
      λ k. cancel_le g x (quotient g c) h (omega (arith, ints, e, f, r_is, below, k)),
    )

congruence_set : (g n : ℕ) (s x c : ℤ) → 0 < g → s ≡ pos g *ℤ x → g ∣ unsigned_abs c → Congruent n x (quotient g c) ↔ Congruent (g * n) s c
congruence_set g n s x c h e d =
    let f = exact g c h d in (
      λ k. (
        k.0,
        let a = ap (λ y. pos g *ℤ y) k.1 in
            let b = mul_add (pos g) (quotient g c) (pos n *ℤ k.0) in
            let m = mul_assoc (pos g) (pos n) k.0 in
            omega (arith, ints, e, f, a, b, m),
      ),
      λ k. (
        k.0,
        let a = k.1 in
            let b = mul_add (pos g) (quotient g c) (pos n *ℤ k.0) in
            let m = mul_assoc (pos g) (pos n) k.0 in
            cancel g x (quotient g c +ℤ pos n *ℤ k.0) h (omega (arith, ints, e, f, a, b, m)),
      ),
    )

congruence_empty : (g n : ℕ) (s x c : ℤ) → s ≡ pos g *ℤ x → (g ∣ unsigned_abs c → ⊥) → Congruent (g * n) s c → ⊥
congruence_empty g n s x c e none k =
    let a = k.1 in
    let b = mul_add (pos g) x (neg_ℤ (pos n *ℤ k.0)) in
    let m = mul_assoc (pos g) (pos n) k.0 in
    let o = mul_neg (pos g) (pos n *ℤ k.0) in
    let f : pos g *ℤ (x -ℤ pos n *ℤ k.0) ≡ c = omega (arith, ints, e, a, b, m, o) in
    equation_none g (pos g *ℤ (x -ℤ pos n *ℤ k.0)) (x -ℤ pos n *ℤ k.0) c refl none f

-- n is a normal form with the set of the atom of this kind, coefficients and constant
pub record HasAtom (k : Kind) (cs : List ℤ) (c : ℤ) (n : Normal) : Type 0 where
  pub size : length n.coefficients ≡ length cs
  pub reduced : IsReduced n.kind n.coefficients n.constant
  pub coefficients : AllByRecursion IsCoefficient n.coefficients
  pub constant : IsConstant n.constant
  pub set : (z : List ℤ) → length z ≡ length cs → NormalSet n z ↔ Compares k (dot cs z) c

always_form : (b : Bool) (t : ℕ) (k : Kind) (cs : List ℤ) (c : ℤ) → t ≡ length cs → ((z : List ℤ) → length z ≡ length cs → IsTrue b ↔ Compares k (dot cs z) c) → HasAtom k cs c (always b t)
always_form b t k cs c e set = record {
  size = length-replicate t (pos 0) ∙ e;
  reduced = (zeros t, refl);
  coefficients = zeros_coefficients t;
  constant = omega arith;
  set = set;
}

zero_is : (a : ℤ) → unsigned_abs a ≡ 0 → a ≡ pos 0
zero_is (pos n) e = ap pos e
zero_is (negsuc n) e = absurd (omega (arith, e))

-- no coefficient but 0
dot-zeros : (cs z : List ℤ) → AllByRecursion (λ a. 0 ∣ unsigned_abs a) cs → dot cs z ≡ pos 0
dot-zeros [] z h = refl
dot-zeros (a ∷ cs) [] h = refl
dot-zeros (a ∷ cs) (x ∷ z) h =
    let none : unsigned_abs a ≡ 0 = eq-zero_of_zero-dvd h.0 in
    let first : a *ℤ x ≡ pos 0 = ap (λ y. y *ℤ x) (zero_is a none) ∙ zero_mul x in
    let more = dot-zeros cs z h.1 in
    omega (arith, ints, first, more)

wide : (c : ℤ) (g : ℕ) → 0 < g → IsCoefficient c → IsConstant (quotient g c)
wide c g h k = let f = quotient_small g (2 ^ 63) c h k in omega (arith, f)

zero_equation : (s c : ℤ) (b : Bool) → (unsigned_abs c == 0) ≡ b → s ≡ pos 0 → IsTrue b ↔ (s ≡ c)
zero_equation s c true e f =
    let none : unsigned_abs c ≡ 0 = grind (arith, nat_tests, e) in
    (λ _. f ∙ sym (zero_is c none), λ _. refl)
zero_equation s c false e f =
    (λ t. absurd (false≢true t), λ g. absurd (false≢true (sym e ∙ ap (λ x. x == 0) (ap unsigned_abs (sym g ∙ f)))))

zero_inequality : (s c : ℤ) (b : Bool) → int_le (pos 0) c ≡ b → s ≡ pos 0 → IsTrue b ↔ (s ≤ℤ c)
zero_inequality s c true e f = (λ _. omega (arith, ints, e, f), λ _. refl)
zero_inequality s c false e f = (λ t. absurd (false≢true t), λ g. absurd (omega (arith, ints, e, f, g)))

equation_form : (g : ℕ) (cs : List ℤ) (c : ℤ) (zero' divided : Bool) → (g == 0) ≡ zero' → divides g c ≡ divided → IsGcdOf g cs → IsInRange cs c → HasAtom Eq cs c (if zero' then always (unsigned_abs c == 0) (length cs) else if divided then record { kind = Equals; coefficients = map (quotient g) cs; constant = quotient g c } else always false (length cs))
equation_form g cs c true divided e f gcd within =
    let none : g ≡ 0 = grind (arith, nat_tests, e) in
    let zero_gcd = subst (λ (x : ℕ). IsGcdOf x cs) none gcd in
    always_form (unsigned_abs c == 0) (length cs) Eq cs c refl (λ z l. zero_equation (dot cs z) c (unsigned_abs c == 0) refl (dot-zeros cs z zero_gcd.divides))
equation_form g cs c false true e f gcd within =
    let above : 0 < g = grind (arith, nat_tests, e) in
    record {
      size = length-map cs (quotient g);
      reduced = gcd_divided g cs above gcd;
      coefficients = quotients_coefficients g cs above within.coefficients;
      constant = wide c g above within.constant;
      set = λ z l. equation_set g (dot cs z) (dot (map (quotient g) cs) z) c above (dot-quotients g cs z above gcd.divides) (divides_true g c f);
    }
equation_form g cs c false false e f gcd within =
    let above : 0 < g = grind (arith, nat_tests, e) in
    always_form false (length cs) Eq cs c refl (λ z l. (λ t. absurd (false≢true t), λ k. absurd (equation_none g (dot cs z) (dot (map (quotient g) cs) z) c (dot-quotients g cs z above gcd.divides) (divides_false g c f) k)))

inequality_form : (g : ℕ) (cs : List ℤ) (c : ℤ) (zero' : Bool) → (g == 0) ≡ zero' → IsGcdOf g cs → IsInRange cs c → HasAtom Le cs c (if zero' then always (int_le (pos 0) c) (length cs) else record { kind = AtMost; coefficients = map (quotient g) cs; constant = quotient g c })
inequality_form g cs c true e gcd within =
    let none : g ≡ 0 = grind (arith, nat_tests, e) in
    let zero_gcd = subst (λ (x : ℕ). IsGcdOf x cs) none gcd in
    always_form (int_le (pos 0) c) (length cs) Le cs c refl (λ z l. zero_inequality (dot cs z) c (int_le (pos 0) c) refl (dot-zeros cs z zero_gcd.divides))
inequality_form g cs c false e gcd within =
    let above : 0 < g = grind (arith, nat_tests, e) in
    record {
      size = length-map cs (quotient g);
      reduced = gcd_divided g cs above gcd;
      coefficients = quotients_coefficients g cs above within.coefficients;
      constant = wide c g above within.constant;
      set = λ z l. inequality_set g (dot cs z) (dot (map (quotient g) cs) z) c above (dot-quotients g cs z above gcd.divides);
    }

-- quotients of residues are residues
quotient_residue : (m g n : ℕ) (a : ℤ) → 0 < g → m ≡ n * g → IsResidue m a → IsResidue n (quotient g a)
quotient_residue m g n a h e k = (k.0 / g, ap (quotient g) k.1, div_below k.0 g n h (let f = k.2 in omega (arith, e, f)))

quotients_residues : (m g n : ℕ) (cs : List ℤ) → 0 < g → m ≡ n * g → AllByRecursion (IsResidue m) cs → AllByRecursion (IsResidue n) (map (quotient g) cs)
quotients_residues m g n [] h e k = tt
quotients_residues m g n (a ∷ cs) h e k = (quotient_residue m g n a h e k.0, quotients_residues m g n cs h e k.1)

-- a congruence whose numbers are residues already; the set is that of the sums s at vectors
congruence_form : (m g : ℕ) (k : Kind) (bs cs : List ℤ) (b c : ℤ) (divided one : Bool) → divides g c ≡ divided → (m / g == 1) ≡ one → 1 ≤ m → m < 2 ^ 63 → length cs ≡ length bs → AllByRecursion (IsResidue m) cs → IsResidue m c → AllByRecursion IsCoefficient cs → IsGcdOf g (pos m ∷ cs) → ((z : List ℤ) → length z ≡ length bs → Congruent m (dot cs z) c ↔ Compares k (dot bs z) b) → HasAtom k bs b (if divided then if one then always true (length cs) else record { kind = Modulo (m / g); coefficients = map (quotient g) cs; constant = quotient g c } else always false (length cs))
congruence_form m g k bs cs b c divided one e f low high size residues residue_c coefs gcd set =
    let above : 0 < g = pos_of_dvd_of_pos gcd.divides.0 low in
    let whole : g * (m / g) ≡ m = mul-div_cancel' g gcd.divides.0 in
    by_cases m g k bs cs b c divided one above whole e f low high size residues residue_c coefs gcd set
  where
    by_cases : (m g : ℕ) (k : Kind) (bs cs : List ℤ) (b c : ℤ) (divided one : Bool) → 0 < g → g * (m / g) ≡ m → divides g c ≡ divided → (m / g == 1) ≡ one → 1 ≤ m → m < 2 ^ 63 → length cs ≡ length bs → AllByRecursion (IsResidue m) cs → IsResidue m c → AllByRecursion IsCoefficient cs → IsGcdOf g (pos m ∷ cs) → ((z : List ℤ) → length z ≡ length bs → Congruent m (dot cs z) c ↔ Compares k (dot bs z) b) → HasAtom k bs b (if divided then if one then always true (length cs) else record { kind = Modulo (m / g); coefficients = map (quotient g) cs; constant = quotient g c } else always false (length cs))
    by_cases m g k bs cs b c true true above whole e f low high size residues residue_c coefs gcd set =
        let one : m / g ≡ 1 = grind (arith, nat_tests, f) in
        always_form true (length cs) k bs b size (λ z l. (
          λ _. (set z l).0 (subst (λ (x : ℕ). Congruent x (dot cs z) c) whole ((congruence_set g (m / g) (dot cs z) (dot (map (quotient g) cs) z) c above (dot-quotients g cs z above gcd.divides.1) (divides_true g c e)).0 (subst (λ (x : ℕ). Congruent x (dot (map (quotient g) cs) z) (quotient g c)) (sym one) (by_one _ _)))),
          λ _. refl,
        ))
      where
        by_one : (x y : ℤ) → Congruent 1 x y
        by_one x y = (x -ℤ y, omega (arith, ints))
    by_cases m g k bs cs b c true false above whole e f low high size residues residue_c coefs gcd set =
        let not_one : m / g ≡ 1 → ⊥ = λ one. false≢true (sym f ∙ ap (λ x. x == 1) one) in
        let not_none : m / g ≡ 0 → ⊥ = λ none. (let p : g * (m / g) ≡ 0 = ap (λ x. g * x) none ∙ omega arith in omega (arith, whole, p, low)) in
        let turned : m ≡ (m / g) * g = omega (arith, whole) in
        let below : m / g ≤ m = omega (arith, above) in
        record {
          size = length-map cs (quotient g) ∙ size;
          reduced = (omega (arith, not_one, not_none), omega (arith, below, high), quotients_residues m g (m / g) cs above turned residues, quotient_residue m g (m / g) c above turned residue_c, gcd_divided g (pos m ∷ cs) above gcd);
          coefficients = quotients_coefficients g cs above coefs;
          constant = residue_constant (m / g) (quotient g c) (omega (arith, below, high)) (quotient_residue m g (m / g) c above turned residue_c);
          set = λ z l.
              let p = congruence_set g (m / g) (dot cs z) (dot (map (quotient g) cs) z) c above (dot-quotients g cs z above gcd.divides.1) (divides_true g c e) in
              let q = set z l in
              (λ x. q.0 (subst (λ (y : ℕ). Congruent y (dot cs z) c) whole (p.0 x)), λ x. p.1 (subst (λ (y : ℕ). Congruent y (dot cs z) c) (sym whole) (q.1 x)));
        }
    by_cases m g k bs cs b c false one above whole e f low high size residues residue_c coefs gcd set =
        always_form false (length cs) k bs b size (λ z l. (
          λ t. absurd (false≢true t),
          λ x. absurd (congruence_empty g (m / g) (dot cs z) (dot (map (quotient g) cs) z) c (dot-quotients g cs z above gcd.divides.1) (divides_false g c e) (subst (λ (y : ℕ). Congruent y (dot cs z) c) (sym whole) ((set z l).1 x))),
        ))

pub normal_at_has : (k : Kind) (g : ℕ) (cs : List ℤ) (c : ℤ) → IsModulus k → IsGcdOf g (numbers_of k cs) → IsInRangeFor k cs c → HasAtom k cs c (normal_at k g cs c)
normal_at_has Eq g cs c m gcd within = equation_form g cs c (g == 0) (divides g c) refl refl gcd within
normal_at_has Le g cs c m gcd within = inequality_form g cs c (g == 0) refl gcd within
normal_at_has (Mod n) g cs c m gcd within =
    let above = m.0 in
    congruence_form n g (Mod n) cs (map (residue n) cs) c (residue n c) (divides g (residue n c)) (n / g == 1) refl refl above m.1 (length-map cs (residue n))
    (residues_of n cs above) (residue_is n c above) (residues_coefficients n cs above m.1) gcd
    (λ z l.
    let p = dot-residues n cs z above in
    let q = residue_congruent n c above in (
      λ x. congruent_trans n _ _ _ p (congruent_trans n _ _ _ x (congruent_sym n _ _ q)),
      λ x. congruent_trans n _ _ _ (congruent_sym n _ _ p) (congruent_trans n _ _ _ x q),
    ))

range_for : (k : Kind) (cs : List ℤ) (c : ℤ) → AllByRecursion IsCoefficient cs → IsCoefficient c → IsInRangeFor k cs c
range_for Eq cs c h l = record { coefficients = h; constant = l }
range_for Le cs c h l = record { coefficients = h; constant = l }
range_for (Mod m) cs c h l = tt

-- The normal form of an atom is a normal form with as many coefficients and with the atom's set.
pub normal_form_at : (k : Kind) (cs : List ℤ) (c : ℤ) (n : Normal) → IsModulus k → IsInRangeFor k cs c → IsNormalFormAt k cs c n → HasAtom k cs c n
normal_form_at k cs c n m r f = subst (λ (x : Normal). HasAtom k cs c x) (sym f.2) (normal_at_has k f.0 cs c m f.1 r)

pub is_normal_from : (k : Kind) (cs : List ℤ) (c : ℤ) (n : Normal) → length cs ≤ 10 → HasAtom k cs c n → IsNormal n
is_normal_from k cs c n h s = record {
  tracks = (let e = s.size in omega (arith, e, h));
  coefficients = s.coefficients;
  constant = s.constant;
  reduced = s.reduced;
}

pub normal_form_is : (a : Atom) (n : Normal) → IsAtom a → IsNormalFormOf a n → HasAtom a.kind a.coefficients a.constant n
normal_form_is a n h f = normal_form_at a.kind a.coefficients a.constant n h.modulus (range_for a.kind a.coefficients a.constant h.coefficients h.constant) f
