-- One turn of the loops over the coefficients.
use Rattle.std.proofs.Common.{ℕ, ◌+◌, ◌<◌, ◌≡◌, List, [], ◌∷◌, length, get_or, drop, refl, add-one}
use Rattle.std.proofs.Math.Seq.{drop-cons}
use Rattle.std.proofs.lemmas.Nat.Gcd.{dvd_trans, dvd_refl}
use native.Mathlib.Nat.{dvd-zero}
use Rattle.std.specs.Prelude.{Result, Ok, Err, IfOk, OnOk, ℤ, pos, unsigned_abs}
use Rattle.std.specs.Int.{◌∣◌, IsGcd}
use Rattle.std.specs.List.{AllByRecursion}
use Rattle.pt_atoms.specs.Sums.{IsGcdOf}

-- what is left at i is the element there and what is left at i + 1
pub left_at : (cs : List ℤ) (i : ℕ) → i < length cs → drop i cs ≡ get_or cs i (pos 0) ∷ drop (i + 1) cs
left_at cs i h = rw (add-one, drop-cons cs i (pos 0)) refl

all_dvd : (g d : ℕ) (cs : List ℤ) → g ∣ d → AllByRecursion (λ a. d ∣ unsigned_abs a) cs → AllByRecursion (λ a. g ∣ unsigned_abs a) cs
all_dvd g d [] h k = tt
all_dvd g d (a ∷ cs) h k = (dvd_trans g h k.0, all_dvd g d cs h k.1)

-- the common divisor of y and the rest, y that of x and a
pub gcd_step : (x y d : ℕ) (a : ℤ) (cs : List ℤ) → IsGcd x (unsigned_abs a) y → IsGcdOf d (pos y ∷ cs) → IsGcdOf d (pos x ∷ a ∷ cs)
gcd_step x y d a cs h k = record {
  divides = (dvd_trans d k.divides.0 h.0, (dvd_trans d k.divides.0 h.1, k.divides.1));
  greatest = λ e l. k.greatest e (h.2 e l.0 l.1.0, l.1.1);
}

pub gcd_alone : (x : ℕ) → IsGcdOf x (pos x ∷ [])
gcd_alone x = record { divides = (dvd_refl x, tt); greatest = λ e l. l.0 }

-- 0 adds nothing to a common divisor
pub gcd_without_zero : (d : ℕ) (cs : List ℤ) → IsGcdOf d (pos 0 ∷ cs) → IsGcdOf d cs
gcd_without_zero d cs h = record { divides = h.divides.1; greatest = λ e l. h.greatest e (dvd-zero e, l) }

-- what follows from the fact on an answer holds of the answer
pub if_ok_by : {A E : Type 0} (P Q : A → Type 0) (r : Result A E) → ((x : A) → P x → Q x) → IfOk r P → IfOk r Q
if_ok_by P Q (Ok x) f h = f x h
if_ok_by P Q (Err e) f h = h

pub on_ok_by : {A E P Q R S : Type 0} (r : Result A E) → OnOk r P → OnOk r Q → OnOk r R → (P → Q → R → S) → OnOk r S
on_ok_by (Ok x) p q s f = f p q s
on_ok_by (Err e) p q s f = p
