-- Linear sums: scaled vectors, a digit before each component, and coefficients that change by multiples.
use Rattle.std.proofs.Common.{ℕ, zero, suc, ◌/◌, ◌%◌, ◌≡◌, List, [], ◌∷◌, length, map, ap, sym, ◌∙◌, refl, arith}
use Rattle.std.proofs.lemmas.Int.{ints}
use Rattle.std.specs.Prelude.{ℤ, pos, ◌+ℤ◌, ◌*ℤ◌, neg_ℤ}
use Rattle.pt_atoms.proofs.Ring.{mul_add, mul_swap, mul_neg}
use Rattle.pt_atoms.specs.Sums.{dot}
use Rattle.pt_sets.specs.Words.{digits, doubled_plus, sign_vector}

-- each component times v
abbrev pub scaled : ℤ → List ℤ → List ℤ
scaled v [] = []
scaled v (x ∷ z) = (v *ℤ x) ∷ scaled v z

pub length-scaled : (v : ℤ) (z : List ℤ) → length (scaled v z) ≡ length z
length-scaled v [] = refl
length-scaled v (x ∷ z) = ap suc (length-scaled v z)

pub dot-scaled : (cs : List ℤ) (v : ℤ) (z : List ℤ) → dot cs (scaled v z) ≡ v *ℤ dot cs z
dot-scaled [] v z = omega (arith, ints)
dot-scaled (a ∷ cs) v [] = omega (arith, ints)
dot-scaled (a ∷ cs) v (x ∷ z) =
    ap (λ s. a *ℤ (v *ℤ x) +ℤ s) (dot-scaled cs v z)
    ∙ ap (λ s. s +ℤ v *ℤ dot cs z) (mul_swap a v x)
    ∙ sym (mul_add v (a *ℤ x) (dot cs z))

pub length-digits : (t d : ℕ) → length (digits t d) ≡ t
length-digits zero d = refl
length-digits (suc t) d = ap suc (length-digits t (d / 2))

-- the sum at the vector with the digits of a letter in front
dot-digits : (cs : List ℤ) (t d : ℕ) (z : List ℤ) → length cs ≡ t → length z ≡ t → dot cs (doubled_plus d z) ≡ pos 2 *ℤ dot cs z +ℤ dot cs (map pos (digits t d))
dot-digits [] t d z e f = omega (arith, ints)
dot-digits (a ∷ cs) zero d z e f = absurd (omega (arith, e))
dot-digits (a ∷ cs) (suc t) d [] e f = absurd (omega (arith, f))
dot-digits (a ∷ cs) (suc t) d (x ∷ z) e f =
    let more = dot-digits cs t (d / 2) z (omega (arith, e)) (omega (arith, f)) in
    let first = mul_add a (pos 2 *ℤ x) (pos (d % 2)) in
    let second = mul_swap a (pos 2) x in
    let third = mul_add (pos 2) (a *ℤ x) (dot cs z) in
    omega (arith, ints, more, first, second, third)

pub dot-doubled : (cs : List ℤ) (d : ℕ) (z : List ℤ) → length z ≡ length cs → dot cs (doubled_plus d z) ≡ pos 2 *ℤ dot cs z +ℤ dot cs (map pos (digits (length cs) d))
dot-doubled cs d z e = dot-digits cs (length cs) d z refl e

-- the sum at the vector of a sign
pub dot-sign : (cs : List ℤ) (t s : ℕ) → dot cs (sign_vector t s) ≡ neg_ℤ (dot cs (map pos (digits t s)))
dot-sign [] t s = refl
dot-sign (a ∷ cs) zero s = refl
dot-sign (a ∷ cs) (suc t) s =
    let first = mul_neg a (pos (s % 2)) in
    let more = dot-sign cs t (s / 2) in
    omega (arith, ints, first, more)
