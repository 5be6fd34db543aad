-- The residual of a normal form is a normal form, has the residual set, and goes back to the form.
use Rattle.std.proofs.Common.{ℕ, zero, suc, ◌+◌, ◌*◌, ◌/◌, ◌%◌, ◌^◌, ◌<◌, ◌≤◌, ◌≡◌, ◌↔◌, ◌==◌, if◌then◌else◌, Bool, true, false, IsTrue, List, [], ◌∷◌, length, map, replicate, ap, sym, ◌∙◌, refl, subst, arith}
use Rattle.std.proofs.lemmas.Int.{ints}
use Rattle.std.proofs.lemmas.Bool.{false≢true}
use Rattle.std.proofs.lemmas.Bool.Decides.{nat_tests}
use Rattle.std.proofs.lemmas.List.{length-map, length-replicate}
use native.Mathlib.Nat.{mul-div_cancel', dvd-mul_left_of_dvd, one-dvd, pow-suc}
use Rattle.std.specs.Prelude.{ℤ, pos, negsuc, ◌+ℤ◌, ◌-ℤ◌, ◌*ℤ◌, unsigned_abs}
use Rattle.std.specs.Int.{◌∣◌}
use Rattle.std.specs.List.{AllByRecursion}
use Rattle.pt_atoms.proofs.Residues.{congruent_sym, congruent_trans, congruent_by, congruent_from_dvd, dvd_from_congruent, residue_is, residue_congruent, residue_unique, dot-residues}
use Rattle.pt_atoms.proofs.Halving.{equation_even, equation_odd, inequality_half, congruence_odd, congruence_even, congruence_none}
use Rattle.pt_atoms.proofs.Different.{GoesBack}
use Rattle.pt_atoms.specs.Sums.{dot, Congruent, IsGcdOf}
use Rattle.pt_atoms.specs.Atoms.{IsReduced, Meets, NormalSet, residue, is_even, half, half_modulo, always, modulo, residual_at}
use Rattle.pt_atoms.specs.Numbers.{IsResidue, IsZero, IsCoefficient, IsConstant}
use Rattle.pt_atoms.specs.declared.NormalKind.{NormalKind}
use Rattle.pt_atoms.specs.declared.NormalKind.TheVariants.{Always, Eq, Le, Mod}
use Rattle.pt_atoms.specs.declared.Normal.{Normal}

-- n is a residual of a form of kind k and coefficients cs, r the constant less the sum at the letter's digits
pub record IsStep (k : NormalKind) (cs : List ℤ) (r : ℤ) (n : Normal) : Type 0 where
  pub size : length n.coefficients ≡ length cs
  pub reduced : IsReduced n.kind n.coefficients n.constant
  pub set : (z : List ℤ) (o c : ℤ) → length z ≡ length cs → r ≡ c -ℤ o → NormalSet n z ↔ Meets k (pos 2 *ℤ dot cs z +ℤ o) c
  pub back : (i : NormalKind) (bs : List ℤ) → GoesBack i bs k cs → GoesBack i bs n.kind n.coefficients
  pub coefficients : AllByRecursion IsCoefficient cs → AllByRecursion IsCoefficient n.coefficients
  pub constant : unsigned_abs r ≤ 2 * 2 ^ 67 → IsConstant n.constant

pub zeros : (t : ℕ) → AllByRecursion IsZero (replicate t (pos 0))
zeros zero = tt
zeros (suc t) = (refl, zeros t)

pub zeros_coefficients : (t : ℕ) → AllByRecursion IsCoefficient (replicate t (pos 0))
zeros_coefficients zero = tt
zeros_coefficients (suc t) = (omega arith, zeros_coefficients t)

-- a form that goes back to another has as many coefficients
goes_back_length : (i k : NormalKind) (bs cs : List ℤ) → GoesBack i bs k cs → length cs ≡ length bs
goes_back_length i (Always b) bs cs h = h
goes_back_length Eq Eq bs cs h = ap length h
goes_back_length Le Le bs cs h = ap length h
goes_back_length (Mod m) (Mod n) bs cs h = ap length h.2 ∙ length-map bs (residue n)
goes_back_length i k bs cs h = absurd (grind (arith, h))

always_back : (i k : NormalKind) (bs cs : List ℤ) (b : Bool) → GoesBack i bs k cs → GoesBack i bs (Always b) (replicate (length cs) (pos 0))
always_back i k bs cs b h = length-replicate (length cs) (pos 0) ∙ goes_back_length i k bs cs h

always_step : (b : Bool) (k : NormalKind) (cs : List ℤ) (r : ℤ) → ((z : List ℤ) (o c : ℤ) → length z ≡ length cs → r ≡ c -ℤ o → IsTrue b ↔ Meets k (pos 2 *ℤ dot cs z +ℤ o) c) → IsStep k cs r (always b (length cs))
always_step b k cs r set = record {
  size = length-replicate (length cs) (pos 0);
  reduced = (zeros (length cs), refl);
  set = set;
  back = λ i bs h. always_back i k bs cs b h;
  coefficients = λ h. zeros_coefficients (length cs);
  constant = λ h. omega arith;
}

half_within : (r : ℤ) (m : ℕ) → unsigned_abs r ≤ 2 * m → unsigned_abs (half r) ≤ m
half_within (pos n) m h = omega arith
half_within (negsuc n) m h = omega arith

equation_step : (cs : List ℤ) (r : ℤ) (t : Bool) → is_even r ≡ t → IsGcdOf 1 cs → IsStep Eq cs r (if t then record { kind = Eq; coefficients = cs; constant = half r } else always false (length cs))
equation_step cs r true e gcd = record {
  size = refl;
  reduced = gcd;
  set = λ z o c l f. equation_even (dot cs z) o c r f e;
  back = λ i bs h. h;
  coefficients = λ h. h;
  constant = λ h. half_within r (2 ^ 67) h;
}
equation_step cs r false e gcd = always_step false Eq cs r (λ z o c l f. equation_odd (dot cs z) o c r f e)

inequality_step : (cs : List ℤ) (r : ℤ) → IsGcdOf 1 cs → IsStep Le cs r (record { kind = Le; coefficients = cs; constant = half r })
inequality_step cs r gcd = record {
  size = refl;
  reduced = gcd;
  set = λ z o c l f. inequality_half (dot cs z) o c r f;
  back = λ i bs h. h;
  coefficients = λ h. h;
  constant = λ h. half_within r (2 ^ 67) h;
}

pub residue_constant : (m : ℕ) (c : ℤ) → m < 2 ^ 63 → IsResidue m c → IsConstant c
residue_constant m c h k = let f = k.1 in let g = k.2 in subst (λ (x : ℤ). unsigned_abs x ≤ 2 ^ 67) (sym f) (omega arith)

odd_step : (m : ℕ) (cs : List ℤ) (r : ℤ) → m % 2 ≡ 1 → 2 ≤ m → m < 2 ^ 63 → AllByRecursion (IsResidue m) cs → IsGcdOf 1 (pos m ∷ cs) → IsStep (Mod m) cs r (record { kind = Mod m; coefficients = cs; constant = half_modulo m r })
odd_step m cs r odd above below residues gcd =
    let fits : IsResidue m (half_modulo m r) = residue_is m (pos ((m + 1) / 2) *ℤ r) (omega arith) in
    record {
      size = refl;
      reduced = (above, below, residues, fits, gcd);
      set = λ z o c l f. congruence_odd m (dot cs z) o c r f odd;
      back = λ i bs h. h;
      coefficients = λ h. h;
      constant = λ h. residue_constant m (half_modulo m r) below fits;
    }

pub residues_of : (m : ℕ) (cs : List ℤ) → 0 < m → AllByRecursion (IsResidue m) (map (residue m) cs)
residues_of m [] h = tt
residues_of m (a ∷ cs) h = (residue_is m a h, residues_of m cs h)

pub residues_coefficients : (m : ℕ) (cs : List ℤ) → 0 < m → m < 2 ^ 63 → AllByRecursion IsCoefficient (map (residue m) cs)
residues_coefficients m [] h k = tt
residues_coefficients m (a ∷ cs) h k =
    let f = residue_is m a h in
    (let e = f.1 in let g = f.2 in subst (λ (x : ℤ). unsigned_abs x ≤ 2 ^ 63) (sym e) (omega arith), residues_coefficients m cs h k)

-- a residue of a residue, where the smaller modulus divides the greater one
residue-residue : (m n q : ℕ) (a : ℤ) → 0 < n → 0 < m → m ≡ n * q → residue n (residue m a) ≡ residue n a
residue-residue m n q a h k e =
    residue_unique n _ _ (residue_is n (residue m a) h) (residue_is n a h)
    (congruent_trans n _ _ _ (congruent_sym n _ _ (residue_congruent n (residue m a) h))
    (congruent_trans n _ _ _ (congruent_by m n q _ _ e (congruent_sym m _ _ (residue_congruent m a k))) (residue_congruent n a h)))

pub residues-residues : (m n q : ℕ) (cs : List ℤ) → 0 < n → 0 < m → m ≡ n * q → map (residue n) (map (residue m) cs) ≡ map (residue n) cs
residues-residues m n q [] h k e = refl
residues-residues m n q (a ∷ cs) h k e =
    let first = residue-residue m n q a h k e in
    let more = residues-residues m n q cs h k e in
    cc

-- a common divisor of n and the coefficients modulo n divides the coefficients
divides_back : (d n : ℕ) (cs : List ℤ) → 0 < n → d ∣ n → AllByRecursion (λ a. d ∣ unsigned_abs a) (map (residue n) cs) → AllByRecursion (λ a. d ∣ unsigned_abs a) cs
divides_back d n [] h k l = tt
divides_back d n (a ∷ cs) h k l =
    let whole : n ≡ d * (n / d) = sym (mul-div_cancel' d k) in
    let near : Congruent d a (residue n a) = congruent_by n d (n / d) _ _ whole (residue_congruent n a h) in
    (dvd_from_congruent d a (congruent_trans d _ _ (pos 0) near (congruent_from_dvd d (residue n a) l.0)), divides_back d n cs h k l.1)

pub one_divides : (cs : List ℤ) → AllByRecursion (λ a. 1 ∣ unsigned_abs a) cs
one_divides [] = tt
one_divides (a ∷ cs) = (one-dvd (unsigned_abs a), one_divides cs)

gcd_halved : (m n : ℕ) (cs : List ℤ) → 0 < n → m ≡ 2 * n → IsGcdOf 1 (pos m ∷ cs) → IsGcdOf 1 (pos n ∷ map (residue n) cs)
gcd_halved m n cs h e gcd = record {
  divides = one_divides (pos n ∷ map (residue n) cs);
  greatest = λ d l. gcd.greatest d (subst (λ (x : ℕ). d ∣ x) (sym e) (dvd-mul_left_of_dvd d l.0 2), divides_back d n cs h l.0 l.1);
}

modulo_back : (i : NormalKind) (bs : List ℤ) (m n : ℕ) (cs : List ℤ) → 0 < n → m ≡ 2 * n → GoesBack i bs (Mod m) cs → GoesBack i bs (Mod n) (map (residue n) cs)
modulo_back (Mod l) bs m n cs h e g = (
  suc g.0,
  (let p : 2 ^ suc g.0 ≡ 2 ^ g.0 * 2 = pow-suc 2 g.0 in
      let q : m * 2 ^ g.0 ≡ (2 * n) * 2 ^ g.0 = ap (λ x. x * 2 ^ g.0) e in
      g.1 ∙ q ∙ regroup n (2 ^ g.0) ∙ ap (λ x. n * x) (sym p)),
  ap (map (residue n)) g.2 ∙ residues-residues m n 2 bs h (omega arith) (omega (arith, e)),
)
  where
    regroup : (n p : ℕ) → (2 * n) * p ≡ n * (p * 2)
    regroup n p = omega arith
modulo_back (Always b) bs m n cs h e g = absurd g
modulo_back Eq bs m n cs h e g = absurd g
modulo_back Le bs m n cs h e g = absurd g

modulo_step : (m n : ℕ) (cs : List ℤ) (r : ℤ) (t : Bool) → (n == 1) ≡ t → m ≡ 2 * n → 2 ≤ m → m < 2 ^ 63 → is_even r ≡ true → IsGcdOf 1 (pos m ∷ cs) → IsStep (Mod m) cs r (if t then always true (length cs) else record { kind = Mod n; coefficients = map (residue n) cs; constant = residue n (half r) })
modulo_step m n cs r true e f above below even gcd =
    let one : n ≡ 1 = grind (arith, nat_tests, e) in
    always_step true (Mod m) cs r (λ z o c l g. (
      λ _. subst (λ (x : ℕ). Congruent x (pos 2 *ℤ dot cs z +ℤ o) c) (sym f)
          ((congruence_even n (dot cs z) o c r g even).0 (subst (λ (x : ℕ). Congruent x (dot cs z) (half r)) (sym one) (by_one (dot cs z) (half r)))),
      λ _. refl,
    ))
  where
    by_one : (a b : ℤ) → Congruent 1 a b
    by_one a b = (a -ℤ b, omega (arith, ints))
modulo_step m n cs r false e f above below even gcd =
    let not_one : n ≡ 1 → ⊥ = λ one. false≢true (sym e ∙ ap (λ x. x == 1) one) in
    let high : 2 ≤ n = omega arith in
    let positive : 0 < n = omega arith in
    let low : n < 2 ^ 63 = omega arith in
    record {
      size = length-map cs (residue n);
      reduced = (high, low, residues_of n cs positive, residue_is n (half r) positive, gcd_halved m n cs positive f gcd);
      set = λ z o c l g.
          let both = congruence_even n (dot cs z) o c r g even in
          let sums : Congruent n (dot cs z) (dot (map (residue n) cs) z) = dot-residues n cs z positive in
          let constants : Congruent n (half r) (residue n (half r)) = residue_congruent n (half r) positive in (
            λ x. subst (λ (y : ℕ). Congruent y (pos 2 *ℤ dot cs z +ℤ o) c) (sym f)
                (both.0 (congruent_trans n _ _ _ sums (congruent_trans n _ _ _ x (congruent_sym n _ _ constants)))),
            λ x. congruent_trans n _ _ _ (congruent_sym n _ _ sums)
                (congruent_trans n _ _ _ (both.1 (subst (λ (y : ℕ). Congruent y (pos 2 *ℤ dot cs z +ℤ o) c) f x)) constants),
          );
      back = λ i bs h. modulo_back i bs m n cs positive f h;
      coefficients = λ h. residues_coefficients n cs positive low;
      constant = λ h. residue_constant n (residue n (half r)) low (residue_is n (half r) positive);
    }

even_step : (m n : ℕ) (cs : List ℤ) (r : ℤ) (t : Bool) → is_even r ≡ t → m ≡ 2 * n → 2 ≤ m → m < 2 ^ 63 → IsGcdOf 1 (pos m ∷ cs) → IsStep (Mod m) cs r (if t then modulo n cs (half r) else always false (length cs))
even_step m n cs r true e f above below gcd = modulo_step m n cs r (n == 1) refl f above below e gcd
even_step m n cs r false e f above below gcd =
    always_step false (Mod m) cs r (λ z o c l g.
    let none = congruence_none n (dot cs z) o c r g e in
    (λ x. absurd (false≢true x), λ x. none.1 (subst (λ (y : ℕ). Congruent y (pos 2 *ℤ dot cs z +ℤ o) c) f x)))

congruence_step : (m : ℕ) (cs : List ℤ) (r c : ℤ) (t : Bool) → (m % 2 == 1) ≡ t → IsReduced (Mod m) cs c → IsStep (Mod m) cs r (if t then record { kind = Mod m; coefficients = cs; constant = half_modulo m r } else if is_even r then modulo (m / 2) cs (half r) else always false (length cs))
congruence_step m cs r c true e h =
    let odd : m % 2 ≡ 1 = grind (arith, nat_tests, e) in
    odd_step m cs r odd h.0 h.1 h.2 h.4
congruence_step m cs r c false e h =
    let even : m % 2 ≡ 1 → ⊥ = λ odd. false≢true (sym e ∙ ap (λ x. x == 1) odd) in
    even_step m (m / 2) cs r (is_even r) refl (omega arith) h.0 h.1 h.4

-- the residual of each reduced form
pub residual_step : (k : NormalKind) (cs : List ℤ) (c r : ℤ) → IsReduced k cs c → IsStep k cs r (residual_at k cs r)
residual_step (Always b) cs c r h = record {
  size = refl;
  reduced = (h.0, refl);
  set = λ z o d l f. (λ x. x, λ x. x);
  back = λ i bs g. g;
  coefficients = λ g. g;
  constant = λ g. omega arith;
}
residual_step Eq cs c r h = equation_step cs r (is_even r) refl h
residual_step Le cs c r h = inequality_step cs r h
residual_step (Mod m) cs c r h = congruence_step m cs r c (m % 2 == 1) refl h
