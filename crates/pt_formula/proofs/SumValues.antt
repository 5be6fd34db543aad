-- The values of sums and multiples of terms.
use Rattle.std.proofs.Common.{◌≡◌, ◌⊎◌, inl, inr, ℕ, ◌<◌, if◌then◌else◌, List, [], ◌∷◌, ◌++◌, refl, ap, sym, ◌∙◌, arith}
use Rattle.std.proofs.lemmas.Int.{ints}
use Rattle.std.specs.Prelude.{ℤ, pos, negsuc, ◌+ℤ◌, ◌-ℤ◌, ◌*ℤ◌}
use Rattle.pt_formula.proofs.Products.{mul_add, add_mul, mul_assoc, mul_zero, zero_mul}
use Rattle.pt_formula.specs.declared.form.Form.{Form}
use Rattle.pt_formula.specs.Forms.{Monomial}
use Rattle.pt_formula.specs.Values.{terms_value}
use Rattle.pt_formula.specs.Sums.{term_list, add_term, sum_terms, scale_terms, form_sum, form_scale, form_difference, form_value}
use Rattle.pt_formula.proofs.TermSums.{zero_or_not, append_none, add_less, add_past, add_same}

-- sums in another order
none_added : (p x : ℤ) → p ≡ pos 0 → x ≡ p +ℤ x
none_added p x e = omega (arith, ints, e)

joined : (p q r s x : ℤ) → s ≡ p +ℤ q → q ≡ r → s +ℤ x ≡ p +ℤ (r +ℤ x)
joined p q r s x d e = omega (arith, ints, d, e)

moved : (p q x y : ℤ) → y ≡ p +ℤ x → q +ℤ y ≡ p +ℤ (q +ℤ x)
moved p q x y e = omega (arith, ints, e)

grouped : (p a b y : ℤ) → y ≡ a +ℤ b → p +ℤ y ≡ (p +ℤ a) +ℤ b
grouped p a b y e = omega (arith, ints, e)

with_constants : (a b c d y : ℤ) → y ≡ a +ℤ b → y +ℤ (c +ℤ d) ≡ (a +ℤ c) +ℤ (b +ℤ d)
with_constants a b c d y e = omega (arith, ints, e)

taken : (x y : ℤ) → x +ℤ negsuc 0 *ℤ y ≡ x -ℤ y
taken x y = omega (arith, ints)

value_list : (values : ℕ → ℤ) (t : Monomial) (ts : List Monomial) → terms_value values (term_list t ++ ts) ≡ t.1 *ℤ values t.0 +ℤ terms_value values ts
value_list values t ts =
    elim (zero_or_not t.1) [
      | inl p ↦
          ap (λ b. terms_value values ((if b then [] else t ∷ []) ++ ts)) p.0
          ∙ none_added (t.1 *ℤ values t.0) (terms_value values ts) (ap (λ z. z *ℤ values t.0) p.1 ∙ zero_mul (values t.0))
      | inr q ↦ ap (λ b. terms_value values ((if b then [] else t ∷ []) ++ ts)) q
    ]

value_add : (values : ℕ → ℤ) (t : Monomial) (us : List Monomial) → terms_value values (add_term t us) ≡ t.1 *ℤ values t.0 +ℤ terms_value values us
value_add values t [] = ap (terms_value values) (sym (append_none (term_list t))) ∙ value_list values t []
value_add values t (u ∷ us) =
    let cases : (t.0 < u.0) ⊎ ((t.0 ≡ u.0) ⊎ (u.0 < t.0)) = grind arith in
    elim cases [
      | inl lt ↦ ap (terms_value values) (add_less t u us lt) ∙ value_list values t (u ∷ us)
      | inr more ↦ elim more [
        | inl same ↦
            ap (terms_value values) (add_same t u us same)
            ∙ value_list values (t.0, t.1 +ℤ u.1) us
            ∙ joined (t.1 *ℤ values t.0) (u.1 *ℤ values t.0) (u.1 *ℤ values u.0) ((t.1 +ℤ u.1) *ℤ values t.0) (terms_value values us) (add_mul t.1 u.1 (values t.0)) (ap (λ v. u.1 *ℤ values v) same)
        | inr lt ↦
            ap (terms_value values) (add_past t u us lt)
            ∙ moved (t.1 *ℤ values t.0) (u.1 *ℤ values u.0) (terms_value values us) (terms_value values (add_term t us)) (value_add values t us)
      ]
    ]

value_sum : (values : ℕ → ℤ) (ts us : List Monomial) → terms_value values (sum_terms ts us) ≡ terms_value values ts +ℤ terms_value values us
value_sum values [] us = none_added (pos 0) (terms_value values us) refl
value_sum values (t ∷ ts) us =
    value_add values t (sum_terms ts us)
    ∙ grouped (t.1 *ℤ values t.0) (terms_value values ts) (terms_value values us) (terms_value values (sum_terms ts us)) (value_sum values ts us)

value_scale : (values : ℕ → ℤ) (k : ℤ) (us : List Monomial) → terms_value values (scale_terms k us) ≡ k *ℤ terms_value values us
value_scale values k [] = sym (mul_zero k)
value_scale values k (u ∷ us) =
    value_list values (u.0, k *ℤ u.1) (scale_terms k us)
    ∙ ap (λ x. x +ℤ terms_value values (scale_terms k us)) (mul_assoc k u.1 (values u.0))
    ∙ ap (λ x. k *ℤ (u.1 *ℤ values u.0) +ℤ x) (value_scale values k us)
    ∙ sym (mul_add k (u.1 *ℤ values u.0) (terms_value values us))

pub form_sum_value : (values : ℕ → ℤ) (a b : Form) → form_value values (form_sum a b) ≡ form_value values a +ℤ form_value values b
form_sum_value values a b =
    with_constants (terms_value values a.terms) (terms_value values b.terms) a.constant b.constant (terms_value values (sum_terms a.terms b.terms)) (value_sum values a.terms b.terms)

pub form_scale_value : (values : ℕ → ℤ) (k : ℤ) (a : Form) → form_value values (form_scale k a) ≡ k *ℤ form_value values a
form_scale_value values k a = ap (λ x. x +ℤ k *ℤ a.constant) (value_scale values k a.terms) ∙ sym (mul_add k (terms_value values a.terms) a.constant)

pub form_difference_value : (values : ℕ → ℤ) (a b : Form) → form_value values (form_difference a b) ≡ form_value values a -ℤ form_value values b
form_difference_value values a b =
    form_sum_value values a (form_scale (negsuc 0) b)
    ∙ ap (λ x. form_value values a +ℤ x) (form_scale_value values (negsuc 0) b)
    ∙ taken (form_value values a) (form_value values b)
