-- Numbers of 64 bits, their products and sums of those as numbers of 128 bits.
use Rattle.std.proofs.Common.{◌≡◌, ◌≤◌, ◌+◌, ◌^◌, ℤ, pos, negsuc, w64, to_z, of_z, FitsSigned, arith, ap, subst, sym, ◌∙◌}
use Rattle.std.specs.Int.{w128}
use Rattle.std.proofs.Math.Nat.{mul-le-mul}
use Rattle.std.proofs.lemmas.Int.{ints, to_z-of_z, fits_signed_from_abs, unsigned_abs-mul}
use Rattle.std.specs.Prelude.{◌+ℤ◌, ◌*ℤ◌, unsigned_abs}

abs_small : (x : ℤ) → FitsSigned w64 x → unsigned_abs x ≤ 2 ^ 63
abs_small (pos n) f = omega (arith, f.sfits)
abs_small (negsuc n) f = omega (arith, f.sfits)

product_small : (x y : ℤ) → FitsSigned w64 x → FitsSigned w64 y → unsigned_abs (x *ℤ y) ≤ 2 ^ 126
product_small x y f g = omega (arith, unsigned_abs-mul x y, mul-le-mul (abs_small x f) (abs_small y g))

abs_sum : (x y : ℤ) → unsigned_abs (x +ℤ y) ≤ unsigned_abs x + unsigned_abs y
abs_sum x y = omega (arith, ints)

fits_wide : (x : ℤ) → FitsSigned w64 x → FitsSigned w128 x
fits_wide x f = record { sfits = omega (arith, f.sfits) }

fits_product : (x y : ℤ) → FitsSigned w64 x → FitsSigned w64 y → FitsSigned w128 (x *ℤ y)
fits_product x y f g = fits_signed_from_abs w128 (x *ℤ y) (omega (arith, product_small x y f g))

fits_sum : (x y z : ℤ) → FitsSigned w64 x → FitsSigned w64 y → FitsSigned w64 z → FitsSigned w128 (x +ℤ y *ℤ z)
fits_sum x y z f g h = fits_signed_from_abs w128 (x +ℤ y *ℤ z) (omega (arith, abs_sum x (y *ℤ z), abs_small x f, product_small y z g h))

-- y is what `i128::from` makes of x
pub wide : (x y : ℤ) → FitsSigned w64 x → y ≡ to_z w64 (of_z w64 x) → to_z w128 (of_z w128 y) ≡ x
wide x y f e = ap (λ v. to_z w128 (of_z w128 v)) (e ∙ to_z-of_z w64 x f) ∙ to_z-of_z w128 x (fits_wide x f)

pub wide_product : (x y p q : ℤ) → FitsSigned w64 x → FitsSigned w64 y → p ≡ to_z w64 (of_z w64 x) → q ≡ to_z w64 (of_z w64 y) → to_z w128 (of_z w128 (to_z w128 (of_z w128 p) *ℤ to_z w128 (of_z w128 q))) ≡ x *ℤ y
wide_product x y p q f g d e =
    ap (λ v. to_z w128 (of_z w128 (v *ℤ to_z w128 (of_z w128 q)))) (wide x p f d)
    ∙ ap (λ v. to_z w128 (of_z w128 (x *ℤ v))) (wide y q g e)
    ∙ to_z-of_z w128 (x *ℤ y) (fits_product x y f g)

pub wide_added : (x y z m p q : ℤ) → FitsSigned w64 x → FitsSigned w64 y → FitsSigned w64 z → m ≡ to_z w64 (of_z w64 x) → p ≡ to_z w64 (of_z w64 y) → q ≡ to_z w64 (of_z w64 z) → (to_z w128 (of_z w128 m) +ℤ to_z w128 (of_z w128 (to_z w128 (of_z w128 p) *ℤ to_z w128 (of_z w128 q)))) ≡ (x +ℤ y *ℤ z)
wide_added x y z m p q f g h c d e = ap (λ v. v +ℤ to_z w128 (of_z w128 (to_z w128 (of_z w128 p) *ℤ to_z w128 (of_z w128 q)))) (wide x m f c) ∙ ap (λ v. x +ℤ v) (wide_product y z p q g h d e)

pub sum_fits : (x y z m : ℤ) → FitsSigned w64 x → FitsSigned w64 y → FitsSigned w64 z → m ≡ (x +ℤ y *ℤ z) → FitsSigned w128 m
sum_fits x y z m f g h e = subst (FitsSigned w128) (sym e) (fits_sum x y z f g h)

pub sum_kept : (x y z m : ℤ) → FitsSigned w64 x → FitsSigned w64 y → FitsSigned w64 z → m ≡ (x +ℤ y *ℤ z) → to_z w128 (of_z w128 m) ≡ (x +ℤ y *ℤ z)
sum_kept x y z m f g h e = to_z-of_z w128 m (sum_fits x y z m f g h e) ∙ e

-- the same, for a call that is handed the three numbers
pub sum_handed : (x y z m : ℤ) → FitsSigned w64 x → FitsSigned w64 y → FitsSigned w64 z → m ≡ (to_z w64 (of_z w64 x) +ℤ to_z w64 (of_z w64 y) *ℤ to_z w64 (of_z w64 z)) → to_z w128 (of_z w128 m) ≡ (x +ℤ y *ℤ z)
sum_handed x y z m f g h e =
    sum_kept x y z m f g h
    (e
    ∙ ap (λ v. v +ℤ to_z w64 (of_z w64 y) *ℤ to_z w64 (of_z w64 z)) (to_z-of_z w64 x f)
    ∙ ap (λ v. x +ℤ v *ℤ to_z w64 (of_z w64 z)) (to_z-of_z w64 y g)
    ∙ ap (λ v. x +ℤ y *ℤ v) (to_z-of_z w64 z h))
