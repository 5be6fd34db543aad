-- The sets of atoms and of normal forms, what a normal form is, and its residuals.
use Rattle.std.specs.Prelude.{ℕ, ◌+◌, ◌/◌, ◌%◌, ◌^◌, ◌<◌, ◌≤◌, ◌≡◌, ◌==◌, if◌then◌else◌, Bool, true, false, IsTrue, List, ◌∷◌, length, map, fold, replicate, ⊤, ℤ, pos, ◌-ℤ◌, ◌*ℤ◌, ◌≤ℤ◌, unsigned_abs, int_le}
use Rattle.std.specs.Int.{int_div_euclid, int_rem_euclid}
use Rattle.std.specs.List.{AllByRecursion}
use Rattle.pt_sets.specs.Words.{digits}
use Rattle.pt_sets.specs.Sets.{VectorSet}
use Rattle.pt_atoms.specs.Sums.{dot, Congruent, IsGcdOf}
use Rattle.pt_atoms.specs.Numbers.{IsResidue, IsZero, IsConstant, IsCoefficient}
use Rattle.pt_atoms.specs.declared.Kind.{Kind}
use Rattle.pt_atoms.specs.declared.Kind.TheVariants.{Eq, Le, Mod}
use Rattle.pt_atoms.specs.declared.Atom.{Atom}
use Rattle.pt_atoms.specs.declared.NormalKind.{NormalKind}
use Rattle.pt_atoms.specs.declared.NormalKind.TheVariants.{Always, Eq as Equals, Le as AtMost, Mod as Modulo}
use Rattle.pt_atoms.specs.declared.Normal.{Normal}

-- the sum s and the constant c of an atom compare so
abbrev pub Compares : Kind → ℤ → ℤ → Type 0
Compares Eq s c = s ≡ c
Compares Le s c = s ≤ℤ c
Compares (Mod m) s c = Congruent m s c

-- the set of an atom
abbrev pub AtomSet : Atom → VectorSet
AtomSet a z = Compares a.kind (dot a.coefficients z) a.constant

abbrev pub Meets : NormalKind → ℤ → ℤ → Type 0
Meets (Always b) s c = IsTrue b
Meets Equals s c = s ≡ c
Meets AtMost s c = s ≤ℤ c
Meets (Modulo m) s c = Congruent m s c

-- the set of a normal form
abbrev pub NormalSet : Normal → VectorSet
NormalSet n z = Meets n.kind (dot n.coefficients z) n.constant

abbrev pub HasModulus : NormalKind → Type 0
HasModulus (Always b) = ⊤
HasModulus Equals = ⊤
HasModulus AtMost = ⊤
HasModulus (Modulo m) = (0 < m) × (m < 2 ^ 63)

-- what each kind asks of the coefficients and the constant
abbrev pub IsReduced : NormalKind → List ℤ → ℤ → Type 0
IsReduced (Always b) cs c = AllByRecursion IsZero cs × (c ≡ pos 0)
IsReduced Equals cs c = IsGcdOf 1 cs
IsReduced AtMost cs c = IsGcdOf 1 cs
IsReduced (Modulo m) cs c = (2 ≤ m) × (m < 2 ^ 63) × AllByRecursion (IsResidue m) cs × IsResidue m c × IsGcdOf 1 (pos m ∷ cs)

-- a normal form: at most 10 coefficients of 64 bits with a constant in range, reduced by its kind
pub record IsNormal (n : Normal) : Type 0 where
  pub tracks : length n.coefficients ≤ 10
  pub coefficients : AllByRecursion IsCoefficient n.coefficients
  pub constant : IsConstant n.constant
  pub reduced : IsReduced n.kind n.coefficients n.constant

-- ---- residuals

abbrev pub always : Bool → ℕ → Normal
always b t = record { kind = Always b; coefficients = replicate t (pos 0); constant = pos 0 }

abbrev pub is_even : ℤ → Bool
is_even r = unsigned_abs r % 2 == 0

-- r / 2, rounded down
abbrev pub half : ℤ → ℤ
half r = int_div_euclid r (pos 2)

abbrev pub residue : ℕ → ℤ → ℤ
residue m r = int_rem_euclid r (pos m)

-- r / 2 modulo an odd number m, where (m + 1) / 2 is the inverse of 2
abbrev pub half_modulo : ℕ → ℤ → ℤ
half_modulo m r = residue m (pos ((m + 1) / 2) *ℤ r)

-- modulo m, with coefficients and constant reduced; modulo 1 all vectors
abbrev pub modulo : ℕ → List ℤ → ℤ → Normal
modulo m cs c = if m == 1 then always true (length cs) else record { kind = Modulo m; coefficients = map (residue m) cs; constant = residue m c }

-- the residual of a normal form of this kind and these coefficients, r the constant less the sum at the letter's digits
abbrev pub residual_at : NormalKind → List ℤ → ℤ → Normal
residual_at (Always b) cs r = record { kind = Always b; coefficients = cs; constant = pos 0 }
residual_at Equals cs r = if is_even r then record { kind = Equals; coefficients = cs; constant = half r } else always false (length cs)
residual_at AtMost cs r = record { kind = AtMost; coefficients = cs; constant = half r }
residual_at (Modulo m) cs r =
    if m % 2 == 1 then record { kind = Modulo m; coefficients = cs; constant = half_modulo m r }
    else if is_even r then modulo (m / 2) cs (half r)
    else always false (length cs)

-- the sum at the digits of a letter
abbrev pub sum_at : List ℤ → ℕ → ℤ
sum_at cs d = dot cs (map pos (digits (length cs) d))

-- the residual by a letter, in normal form
abbrev pub residual_form : Normal → ℕ → Normal
residual_form n d = residual_at n.kind n.coefficients (n.constant -ℤ sum_at n.coefficients d)

-- the residual by a list of letters, in normal form
abbrev pub form_after : Normal → List ℕ → Normal
form_after n w = fold residual_form n w

-- the lists of letters v and w lead to one form: the parameters that they reach are equal
abbrev pub SameForm : Normal → List ℕ → List ℕ → Type 0
SameForm n v w = form_after n v ≡ form_after n w

-- they lead to one parameter: to forms of one kind and constant, such as the same inequality with the same constant, or the empty set
abbrev pub SameParameter : Normal → List ℕ → List ℕ → Type 0
SameParameter n v w = ((form_after n v).kind ≡ (form_after n w).kind) × ((form_after n v).constant ≡ (form_after n w).constant)

-- ---- the normal form of an atom

abbrev pub divides : ℕ → ℤ → Bool
divides g c = unsigned_abs c % g == 0

abbrev pub quotient : ℕ → ℤ → ℤ
quotient g c = int_div_euclid c (pos g)

-- the numbers whose greatest common divisor is divided out
abbrev pub numbers_of : Kind → List ℤ → List ℤ
numbers_of Eq cs = cs
numbers_of Le cs = cs
numbers_of (Mod m) cs = pos m ∷ map (residue m) cs

-- all divided by g; the set is empty where g does not divide the residue c
abbrev pub congruence_at : ℕ → ℕ → List ℤ → ℤ → Normal
congruence_at m g cs c =
    if divides g c then
    if m / g == 1 then always true (length cs) else record { kind = Modulo (m / g); coefficients = map (quotient g) cs; constant = quotient g c }
    else always false (length cs)

-- the normal form, g the greatest common divisor of its numbers; g is 0 where an equation or inequality has no coefficient but 0
abbrev pub normal_at : Kind → ℕ → List ℤ → ℤ → Normal
normal_at Eq g cs c =
    if g == 0 then always (unsigned_abs c == 0) (length cs)
    else if divides g c then record { kind = Equals; coefficients = map (quotient g) cs; constant = quotient g c }
    else always false (length cs)
normal_at Le g cs c =
    if g == 0 then always (int_le (pos 0) c) (length cs)
    else record { kind = AtMost; coefficients = map (quotient g) cs; constant = quotient g c }
normal_at (Mod m) g cs c = congruence_at m g (map (residue m) cs) (residue m c)

-- n is the normal form of the atom of this kind, coefficients and constant
abbrev pub IsNormalFormAt : Kind → List ℤ → ℤ → Normal → Type 0
IsNormalFormAt k cs c n = (g : ℕ) × IsGcdOf g (numbers_of k cs) × (n ≡ normal_at k g cs c)

-- n is the normal form of the atom
abbrev pub IsNormalFormOf : Atom → Normal → Type 0
IsNormalFormOf a n = IsNormalFormAt a.kind a.coefficients a.constant n

abbrev pub IsModulus : Kind → Type 0
IsModulus Eq = ⊤
IsModulus Le = ⊤
IsModulus (Mod m) = (1 ≤ m) × (m < 2 ^ 63)

-- what every call asks of an atom: at most 10 coefficients and a modulus from 1 to 2 ^ 63 - 1; its numbers have 64 bits
pub record IsAtom (a : Atom) : Type 0 where
  pub tracks : length a.coefficients ≤ 10
  pub modulus : IsModulus a.kind
  pub coefficients : AllByRecursion IsCoefficient a.coefficients
  pub constant : IsCoefficient a.constant

pub record IsInRange (cs : List ℤ) (c : ℤ) : Type 0 where
  pub coefficients : AllByRecursion IsCoefficient cs
  pub constant : IsCoefficient c

-- numbers of 64 bits; those of a congruence are reduced first, so they may be any
abbrev pub IsInRangeFor : Kind → List ℤ → ℤ → Type 0
IsInRangeFor Eq cs c = IsInRange cs c
IsInRangeFor Le cs c = IsInRange cs c
IsInRangeFor (Mod m) cs c = ⊤
