-- Linear forms, their sums, differences and multiples.
use Rattle.std.specs.Prelude.{ℕ, ◌-◌, ◌^◌, ◌≡◌, Bool, true, false, ◌&&◌, ◌==◌, nat_lt, nat_le, if◌then◌else◌, IsTrue, List, [], ◌∷◌, ◌++◌, length, ℤ, pos, negsuc, ◌+ℤ◌, ◌*ℤ◌, int_le, Result, Ok, Err, ⊤}
use Rattle.std.specs.List.{list_all}
use Rattle.pt_formula.specs.declared.TheConstants.{MAX_TRACKS}
use Rattle.pt_formula.specs.declared.form.Form.{Form}
use Rattle.pt_formula.specs.declared.form.FormFault.{FormFault}
use Rattle.pt_formula.specs.declared.form.FormFault.TheVariants.{Coefficient, Tracks, NoMemory}
use Rattle.pt_formula.specs.Forms.{Monomial, is_zero, AreTerms}
use Rattle.pt_formula.specs.Values.{terms_value}

-- z lies in -2^63 .. 2^63 - 1
abbrev pub fits : ℤ → Bool
fits z = int_le (negsuc (2 ^ 63 - 1)) z && int_le z (pos (2 ^ 63 - 1))

-- the term, but nothing where its coefficient is 0
abbrev pub term_list : Monomial → List Monomial
term_list t = if is_zero t.1 then [] else t ∷ []

-- terms with one more added in its place
abbrev pub add_term : Monomial → List Monomial → List Monomial
add_term t [] = term_list t
add_term t (u ∷ us) =
    if nat_lt t.0 u.0 then term_list t ++ u ∷ us
    else if t.0 == u.0 then term_list (t.0, t.1 +ℤ u.1) ++ us
    else u ∷ add_term t us

abbrev pub sum_terms : List Monomial → List Monomial → List Monomial
sum_terms [] us = us
sum_terms (t ∷ ts) us = add_term t (sum_terms ts us)

abbrev pub scale_terms : ℤ → List Monomial → List Monomial
scale_terms k [] = []
scale_terms k (t ∷ ts) = term_list (t.0, k *ℤ t.1) ++ scale_terms k ts

abbrev pub form_sum : Form → Form → Form
form_sum a b = record { terms = sum_terms a.terms b.terms; constant = a.constant +ℤ b.constant }

abbrev pub form_scale : ℤ → Form → Form
form_scale k a = record { terms = scale_terms k a.terms; constant = k *ℤ a.constant }

abbrev pub form_difference : Form → Form → Form
form_difference a b = form_sum a (form_scale (negsuc 0) b)

-- the form of these terms and constant and k times b
abbrev pub combined_form : List Monomial → ℤ → ℤ → Form → Form
combined_form ts c k b = form_sum (record { terms = ts; constant = c }) (form_scale k b)

-- the sum of the terms' values and the constant
abbrev pub form_value : (ℕ → ℤ) → Form → ℤ
form_value values f = terms_value values f.terms +ℤ f.constant

-- the coefficients fit 64 bits
abbrev pub fits_terms : List Monomial → Bool
fits_terms ts = list_all (λ t. fits t.1) ts

-- its numbers fit 64 bits
abbrev pub fits_form : Form → Bool
fits_form f = fits_terms f.terms && fits f.constant

abbrev pub has_few_terms : Form → Bool
has_few_terms f = nat_le (length f.terms) MAX_TRACKS

pub record IsForm (f : Form) : Type 0 where
  pub terms : AreTerms f.terms
  pub few : IsTrue (has_few_terms f)
  pub small : IsTrue (fits_form f)

-- The answer is the form, or the first fault that it has. Want of memory may come always.
abbrev pub Checked : Result Form FormFault → Form → Type 0
Checked (Ok g) f = (g ≡ f) × IsForm f
Checked (Err Coefficient) f = fits_form f ≡ false
Checked (Err Tracks) f = (fits_form f ≡ true) × (has_few_terms f ≡ false)
Checked (Err NoMemory) f = ⊤

-- the terms, or Coefficient where one does not fit
abbrev pub GivesTerms : Result (List Monomial) FormFault → List Monomial → Type 0
GivesTerms (Ok us) ts = (us ≡ ts) × (fits_terms ts ≡ true)
GivesTerms (Err Coefficient) ts = fits_terms ts ≡ false
GivesTerms (Err Tracks) ts = ⊥
GivesTerms (Err NoMemory) ts = ⊤
