-- What holds of the forms that lists of letters lead to from a normal form.
use Rattle.std.proofs.Common.{ℕ, zero, suc, ◌+◌, ◌*◌, ◌/◌, ◌%◌, ◌^◌, ◌<◌, ◌≤◌, ◌≡◌, ◌↔◌, List, [], ◌∷◌, length, map, ap, sym, ◌∙◌, refl, subst, arith}
use Rattle.std.proofs.lemmas.Int.{ints, unsigned_abs-mul}
use Rattle.std.specs.Prelude.{ℤ, pos, negsuc, ◌+ℤ◌, ◌-ℤ◌, ◌*ℤ◌, neg_ℤ, unsigned_abs}
use Rattle.std.specs.List.{AllByRecursion}
use Rattle.pt_sets.specs.Words.{digits, doubled_plus, after_digits}
use Rattle.pt_sets.specs.Sets.{SameSet, residual_by}
use Rattle.pt_sets.proofs.Digits.{length-after_digits}
use Rattle.pt_sets.specs.Costs.{SameResidual}
use Rattle.pt_atoms.proofs.SumLemmas.{dot-doubled}
use Rattle.pt_atoms.proofs.Residues.{residue_is, residue_unique, residue_congruent}
use Rattle.pt_atoms.proofs.Different.{GoesBack, different, same_coefficients}
use Rattle.pt_atoms.proofs.Steps.{IsStep, residual_step}
use Rattle.pt_atoms.specs.Sums.{dot}
use Rattle.pt_atoms.specs.Atoms.{IsNormal, IsReduced, Meets, NormalSet, SameForm, SameParameter, residue, residual_form, form_after, sum_at}
use Rattle.pt_atoms.specs.Numbers.{IsCoefficient, IsResidue}
use Rattle.pt_atoms.specs.declared.NormalKind.{NormalKind}
use Rattle.pt_atoms.specs.declared.NormalKind.TheVariants.{Always, Eq, Le, Mod}
use Rattle.pt_atoms.specs.declared.Normal.{Normal}

-- ---- one letter
abs_sum : (a b : ℤ) → unsigned_abs (a +ℤ b) ≤ unsigned_abs a + unsigned_abs b
abs_sum (pos a) (pos b) = omega (arith, ints)
abs_sum (pos a) (negsuc b) = grind (arith, ints)
abs_sum (negsuc a) (pos b) = grind (arith, ints)
abs_sum (negsuc a) (negsuc b) = omega (arith, ints)

abs_neg : (a : ℤ) → unsigned_abs (neg_ℤ a) ≡ unsigned_abs a
abs_neg (pos zero) = refl
abs_neg (pos (suc n)) = refl
abs_neg (negsuc n) = refl

-- a sum at digits is at most the number of coefficients times 2 ^ 63
pub digit_sum_within : (t d : ℕ) (cs : List ℤ) → AllByRecursion IsCoefficient cs → unsigned_abs (dot cs (map pos (digits t d))) ≤ length cs * 2 ^ 63
digit_sum_within t d [] h = omega arith
digit_sum_within zero d (a ∷ cs) h = omega arith
digit_sum_within (suc t) d (a ∷ cs) h =
    let more = digit_sum_within t (d / 2) cs h.1 in
    let whole = abs_sum (a *ℤ pos (d % 2)) (dot cs (map pos (digits t (d / 2)))) in
    let product : unsigned_abs (a *ℤ pos (d % 2)) ≡ unsigned_abs a * (d % 2) = unsigned_abs-mul a (pos (d % 2)) in
    let small : unsigned_abs a * (d % 2) ≤ unsigned_abs a = bit_product (unsigned_abs a) (d % 2) (omega arith) in
    let first = h.0 in
    omega (arith, more, whole, product, small, first)
  where
    bit_product : (n b : ℕ) → b < 2 → n * b ≤ n
    bit_product n zero h = omega arith
    bit_product n (suc zero) h = omega arith
    bit_product n (suc (suc b)) h = absurd (omega arith)

step_of : (n : Normal) (d : ℕ) → IsNormal n → IsStep n.kind n.coefficients (n.constant -ℤ sum_at n.coefficients d) (residual_form n d)
step_of n d h = residual_step n.kind n.coefficients n.constant _ h.reduced

pub length-residual_form : (n : Normal) (d : ℕ) → IsNormal n → length (residual_form n d).coefficients ≡ length n.coefficients
length-residual_form n d h = (step_of n d h).size

-- the residual of a normal form is one, and its constant is in range again
pub residual_is_normal : (n : Normal) (d : ℕ) → IsNormal n → IsNormal (residual_form n d)
residual_is_normal n d h =
    let s = step_of n d h in
    let near : unsigned_abs (n.constant -ℤ sum_at n.coefficients d) ≤ 2 * 2 ^ 67 =
    (let a = abs_sum n.constant (neg_ℤ (sum_at n.coefficients d)) in
    let b = abs_neg (sum_at n.coefficients d) in
    let e = digit_sum_within (length n.coefficients) d n.coefficients h.coefficients in
    let f = h.tracks in
    let g = h.constant in
    omega (arith, a, b, e, f, g)) in
    record {
      tracks = (let e = s.size in let f = h.tracks in omega (arith, e, f));
      coefficients = s.coefficients h.coefficients;
      constant = s.constant near;
      reduced = s.reduced;
    }

-- and it has the residual set
pub residual_has_set : (n : Normal) (d : ℕ) (z : List ℤ) → IsNormal n → length z ≡ length n.coefficients → NormalSet (residual_form n d) z ↔ NormalSet n (doubled_plus d z)
residual_has_set n d z h e =
    let both = (step_of n d h).set z (sum_at n.coefficients d) n.constant e refl in
    subst (λ (s : ℤ). NormalSet (residual_form n d) z ↔ Meets n.kind s n.constant) (sym (dot-doubled n.coefficients d z e)) both

-- ---- a list of letters
pub record IsAfter (n m : Normal) (w : List ℕ) : Type 0 where
  pub normal : IsNormal m
  pub size : length m.coefficients ≡ length n.coefficients
  pub set : SameSet (length n.coefficients) (NormalSet m) (residual_by (NormalSet n) w)
  pub back : (i : NormalKind) (bs : List ℤ) → GoesBack i bs n.kind n.coefficients → GoesBack i bs m.kind m.coefficients

pub form_after_is : (n : Normal) (w : List ℕ) → IsNormal n → IsAfter n (form_after n w) w
form_after_is n [] h = record { normal = h; size = refl; set = record { agrees = λ z e. (λ x. x, λ x. x) }; back = λ i bs g. g }
form_after_is n (a ∷ w) h =
    let more = form_after_is (residual_form n a) w (residual_is_normal n a h) in
    let size = length-residual_form n a h in
    record {
      normal = more.normal;
      size = more.size ∙ size;
      set = record {
        agrees = λ z e.
            let p = more.set.agrees z (e ∙ sym size) in
            let q = residual_has_set n a (after_digits w z) h (length-after_digits w z ∙ e) in
            (λ x. q.0 (p.0 x), λ x. p.1 (q.1 x));
      };
      back = λ i bs g. more.back i bs ((step_of n a h).back i bs g);
    }

-- a normal form goes back to itself
pub map-residue : (m : ℕ) (cs : List ℤ) → AllByRecursion (IsResidue m) cs → cs ≡ map (residue m) cs
map-residue m [] h = refl
map-residue m (a ∷ cs) h =
    let above : 0 < m = (let f = h.0.2 in omega (arith, f)) in
    let first : a ≡ residue m a = residue_unique m a (residue m a) h.0 (residue_is m a above) (residue_congruent m a above) in
    let more = map-residue m cs h.1 in
    cc

pub goes_back_itself : (k : NormalKind) (cs : List ℤ) (c : ℤ) → IsReduced k cs c → GoesBack k cs k cs
goes_back_itself (Always b) cs c h = refl
goes_back_itself Eq cs c h = refl
goes_back_itself Le cs c h = refl
goes_back_itself (Mod m) cs c h = (0, omega arith, map-residue m cs h.2)

-- Two lists of letters have one residual exactly where they lead to one form.
pub same_form : (n : Normal) (v w : List ℕ) → IsNormal n → SameResidual (length n.coefficients) (NormalSet n) v w → SameForm n v w
same_form n v w h same =
    let p = form_after_is n v h in
    let q = form_after_is n w h in
    let start = goes_back_itself n.kind n.coefficients n.constant h.reduced in
    let sets : SameSet (length n.coefficients) (NormalSet (form_after n v)) (NormalSet (form_after n w)) =
    record { agrees = λ z e. (λ x. (q.set.agrees z e).1 ((same.agrees z e).0 ((p.set.agrees z e).0 x)), λ x. (p.set.agrees z e).1 ((same.agrees z e).1 ((q.set.agrees z e).0 x))) } in
    let r = different n.kind _ _ n.coefficients _ _ _ _ (p.back _ _ start) (q.back _ _ start) p.normal.reduced q.normal.reduced sets in
    λ i. record { kind = r.0 i; coefficients = r.1 i; constant = r.2 i }

pub same_residual : (n : Normal) (v w : List ℕ) → IsNormal n → SameForm n v w → SameResidual (length n.coefficients) (NormalSet n) v w
same_residual n v w h e =
    let p = form_after_is n v h in
    let q = form_after_is n w h in
    record {
      agrees = λ z f. (
        λ x. (q.set.agrees z f).0 (subst (λ (m : Normal). NormalSet m z) e ((p.set.agrees z f).1 x)),
        λ x. (p.set.agrees z f).0 (subst (λ (m : Normal). NormalSet m z) (sym e) ((q.set.agrees z f).1 x)),
      );
    }

-- One parameter is one form.
pub same_parameter_form : (n : Normal) (v w : List ℕ) → IsNormal n → SameParameter n v w → SameForm n v w
same_parameter_form n v w h e =
    let p = form_after_is n v h in
    let q = form_after_is n w h in
    let start = goes_back_itself n.kind n.coefficients n.constant h.reduced in
    let back : GoesBack n.kind n.coefficients (form_after n w).kind (form_after n v).coefficients =
    subst (λ (k : NormalKind). GoesBack n.kind n.coefficients k (form_after n v).coefficients) e.0 (p.back _ _ start) in
    let reduced : IsReduced (form_after n w).kind (form_after n v).coefficients (form_after n v).constant =
    subst (λ (k : NormalKind). IsReduced k (form_after n v).coefficients (form_after n v).constant) e.0 p.normal.reduced in
    let same = same_coefficients n.kind (form_after n w).kind n.coefficients _ _ _ _ back (q.back _ _ start) reduced q.normal.reduced in
    λ i. record { kind = e.0 i; coefficients = same i; constant = e.1 i }

pub same_form_parameter : (n : Normal) (v w : List ℕ) → SameForm n v w → SameParameter n v w
same_form_parameter n v w e = (ap (λ m. m.kind) e, ap (λ m. m.constant) e)
