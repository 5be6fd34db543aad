-- The parameters of a search stand for forms, and their steps for residuals.
use Rattle.std.proofs.Common.{ℕ, ◌/◌, ◌%◌, ◌<◌, ◌≡◌, ◌==◌, if◌then◌else◌, Bool, true, false, List, length, map, replicate, ap, sym, ◌∙◌, refl, arith}
use Rattle.std.proofs.lemmas.Bool.{false≢true}
use Rattle.std.proofs.lemmas.List.{length-map, length-replicate}
use Rattle.std.specs.Prelude.{ℤ, pos}
use Rattle.pt_atoms.proofs.Steps.{residues-residues, zeros}
use Rattle.pt_atoms.proofs.Different.{zeros_same}
use Rattle.pt_atoms.proofs.Forms.{map-residue}
use Rattle.pt_atoms.specs.Atoms.{IsNormal, IsReduced, HasModulus, residue, half, half_modulo, is_even, always, residual_at, residual_form}
use Rattle.pt_atoms.specs.Parameters.{coefficients_at, form_at, parameter_of, next_parameter, parameter_after}
use Rattle.pt_atoms.specs.declared.NormalKind.{NormalKind}
use Rattle.pt_atoms.specs.declared.NormalKind.TheVariants.{Always, Eq, Le, Mod}
use Rattle.pt_atoms.specs.declared.Normal.{Normal}
use Rattle.pt_atoms.specs.declared.parameter.Parameter.{Parameter}

pub has_modulus : (k : NormalKind) (cs : List ℤ) (c : ℤ) → IsReduced k cs c → HasModulus k
has_modulus (Always b) cs c h = tt
has_modulus Eq cs c h = tt
has_modulus Le cs c h = tt
has_modulus (Mod m) cs c h = (let two = h.0 in omega (arith, two), h.1)

pub form_at-injective : (cs : List ℤ) (p q : Parameter) → form_at cs p ≡ form_at cs q → p ≡ q
form_at-injective cs p q e = λ i. record { kind = (e i).kind; constant = (e i).constant }

own_coefficients : (k : NormalKind) (cs : List ℤ) (c : ℤ) → IsReduced k cs c → coefficients_at k cs ≡ cs
own_coefficients (Always b) cs c h = zeros_same (replicate (length cs) (pos 0)) cs (length-replicate (length cs) (pos 0)) (zeros (length cs)) h.0
own_coefficients Eq cs c h = refl
own_coefficients Le cs c h = refl
own_coefficients (Mod m) cs c h = sym (map-residue m cs h.2)

-- a normal form is the one with its own parameter
pub own_form : (n : Normal) → IsNormal n → form_at n.coefficients (parameter_of n) ≡ n
own_form n h =
    let same = own_coefficients n.kind n.coefficients n.constant h.reduced in
    λ i. record { kind = n.kind; coefficients = same i; constant = n.constant }

equation_form : (cs : List ℤ) (r : ℤ) (t : Bool) →
    (if t then record { kind = Eq; coefficients = cs; constant = half r } else always false (length cs)) ≡ form_at cs (if t then record { kind = Eq; constant = half r } else record { kind = Always false; constant = pos 0 })
equation_form cs r true = refl
equation_form cs r false = refl

always_form : (m : ℕ) (cs : List ℤ) (b : Bool) → always b (length (map (residue m) cs)) ≡ form_at cs (record { kind = Always b; constant = pos 0 })
always_form m cs b = ap (always b) (length-map cs (residue m))

congruence_form : (m : ℕ) (cs : List ℤ) (r : ℤ) (t u v : Bool) → (m % 2 == 1) ≡ t → 0 < m →
    (if t then record { kind = Mod m; coefficients = map (residue m) cs; constant = half_modulo m r }
    else if u then
    if v then always true (length (map (residue m) cs)) else record { kind = Mod (m / 2); coefficients = map (residue (m / 2)) (map (residue m) cs); constant = residue (m / 2) (half r) }
    else always false (length (map (residue m) cs)))
    ≡ form_at cs (if t then record { kind = Mod m; constant = half_modulo m r }
    else if u then
    if v then record { kind = Always true; constant = pos 0 } else record { kind = Mod (m / 2); constant = residue (m / 2) (half r) }
    else record { kind = Always false; constant = pos 0 })
congruence_form m cs r true u v e h = refl
congruence_form m cs r false true true e h = always_form m cs true
congruence_form m cs r false true false e h =
    let odd : m % 2 ≡ 1 → ⊥ = λ one. false≢true (sym e ∙ ap (λ x. x == 1) one) in
    let same = residues-residues m (m / 2) 2 cs (omega arith) h (omega arith) in
    λ i. record { kind = Mod (m / 2); coefficients = same i; constant = residue (m / 2) (half r) }
congruence_form m cs r false false v e h = always_form m cs false

-- the form after a step is the residual of the form
step_form : (k : NormalKind) (cs : List ℤ) (r : ℤ) → HasModulus k → residual_at k (coefficients_at k cs) r ≡ form_at cs (next_parameter k r)
step_form (Always b) cs r h = refl
step_form Eq cs r h = equation_form cs r (is_even r)
step_form Le cs r h = refl
step_form (Mod m) cs r h = congruence_form m cs r (m % 2 == 1) (is_even r) (m / 2 == 1) refl h.0

pub residual_form_at : (cs : List ℤ) (p : Parameter) (d : ℕ) → HasModulus p.kind → residual_form (form_at cs p) d ≡ form_at cs (parameter_after cs p d)
residual_form_at cs p d h = step_form p.kind cs _ h

-- of a normal form the step of its own parameter gives its residual
pub residual_form_own : (n : Normal) (d : ℕ) → IsNormal n → form_at n.coefficients (parameter_after n.coefficients (parameter_of n) d) ≡ residual_form n d
residual_form_own n d h =
    sym (residual_form_at n.coefficients (parameter_of n) d (has_modulus n.kind n.coefficients n.constant h.reduced))
    ∙ ap (λ m. residual_form m d) (own_form n h)

-- and the coefficients are its own
pub own_coefficients_at : (n : Normal) → IsNormal n → coefficients_at n.kind n.coefficients ≡ n.coefficients
own_coefficients_at n h = own_coefficients n.kind n.coefficients n.constant h.reduced
