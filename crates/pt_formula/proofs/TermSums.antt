-- Sums and multiples of terms, as a merge makes them.
use Rattle.std.proofs.Common.{◌≡◌, ◌⊎◌, inl, inr, ℕ, zero, suc, ◌+◌, ◌<◌, ◌≤◌, Bool, true, false, not, ◌&&◌, nat_lt, nat_le, ◌==◌, if◌then◌else◌, IsTrue, List, [], ◌∷◌, ◌++◌, length, map, get_or, drop, drop-cons, append_assoc, add-one, refl, ap, sym, subst, ◌∙◌, arith}
use Rattle.std.proofs.lemmas.Bool.Decides.{nat_tests}
use Rattle.std.proofs.lemmas.Int.{ints}
use Rattle.std.specs.Prelude.{ℤ, pos, negsuc, ◌+ℤ◌, ◌*ℤ◌}
use Rattle.std.specs.List.{AllByRecursion}
use Rattle.pt_formula.specs.Forms.{Monomial, is_zero, IsIncreasing, AreTerms}
use Rattle.pt_formula.specs.declared.form.Form.{Form}
use Rattle.pt_formula.specs.Sums.{fits, fits_terms, term_list, add_term, sum_terms, scale_terms, form_sum, combined_form, fits_form, has_few_terms, IsForm}

-- all variables are above v
abbrev pub Above : ℕ → List Monomial → Type 0
Above v ts = AllByRecursion (λ t. v < t.0) ts

-- the variables increase
abbrev pub Rising : List Monomial → Type 0
Rising [] = Unit {0}
Rising (t ∷ ts) = Above t.0 ts × Rising ts

-- no coefficient is 0
abbrev pub NoZeros : List Monomial → Type 0
NoZeros ts = AllByRecursion (λ t. IsTrue (not (is_zero t.1))) ts

above_of : (v : ℕ) (ts : List Monomial) → AllByRecursion (λ u. v < u) (map (λ t. t.0) ts) → Above v ts
above_of v [] h = tt
above_of v (t ∷ ts) h = (h.0, above_of v ts h.1)

to_above : (v : ℕ) (ts : List Monomial) → Above v ts → AllByRecursion (λ u. v < u) (map (λ t. t.0) ts)
to_above v [] h = tt
to_above v (t ∷ ts) h = (h.0, to_above v ts h.1)

pub rising_of : (ts : List Monomial) → IsIncreasing (map (λ t. t.0) ts) → Rising ts
rising_of [] h = tt
rising_of (t ∷ ts) h = (above_of t.0 ts h.0, rising_of ts h.1)

to_rising : (ts : List Monomial) → Rising ts → IsIncreasing (map (λ t. t.0) ts)
to_rising [] h = tt
to_rising (t ∷ ts) h = (to_above t.0 ts h.0, to_rising ts h.1)

pub rising_drop : (i : ℕ) (ts : List Monomial) → Rising ts → Rising (drop i ts)
rising_drop zero ts h = h
rising_drop (suc i) [] h = tt
rising_drop (suc i) (t ∷ ts) h = rising_drop i ts h.1

above_more : (v u : ℕ) (ts : List Monomial) → v < u → Above u ts → Above v ts
above_more v u [] lt h = tt
above_more v u (t ∷ ts) lt h = (omega (arith, h.0), above_more v u ts lt h.1)

pub append_none : (xs : List Monomial) → xs ++ [] ≡ xs
append_none [] = refl
append_none (x ∷ xs) = ap (λ s. x ∷ s) (append_none xs)

-- what holds of one term and of others holds of all after it is added
all_list : (P : Monomial → Type 0) (t : Monomial) → P t → AllByRecursion P (term_list t)
all_list P t p = elim (is_zero t.1) as (λ b. AllByRecursion P (if b then [] else t ∷ [])) [ true ↦ tt | false ↦ (p, tt) ]

all_join : (P : Monomial → Type 0) (xs ys : List Monomial) → AllByRecursion P xs → AllByRecursion P ys → AllByRecursion P (xs ++ ys)
all_join P [] ys h k = k
all_join P (x ∷ xs) ys h k = (h.0, all_join P xs ys h.1 k)

above_add : (v : ℕ) (t : Monomial) (us : List Monomial) → v < t.0 → Above v us → Above v (add_term t us)
above_add v t [] p h = all_list (λ x. v < x.0) t p
above_add v t (u ∷ us) p h =
    elim (nat_lt t.0 u.0) as (λ b. Above v (if b then term_list t ++ u ∷ us else if t.0 == u.0 then term_list (t.0, t.1 +ℤ u.1) ++ us else u ∷ add_term t us)) [
      | true ↦ all_join (λ x. v < x.0) (term_list t) (u ∷ us) (all_list (λ x. v < x.0) t p) h
      | false ↦ elim (t.0 == u.0) as (λ b. Above v (if b then term_list (t.0, t.1 +ℤ u.1) ++ us else u ∷ add_term t us)) [
        | true ↦ all_join (λ x. v < x.0) (term_list (t.0, t.1 +ℤ u.1)) us (all_list (λ x. v < x.0) (t.0, t.1 +ℤ u.1) p) h.1
        | false ↦ (h.0, above_add v t us p h.1)
      ]
    ]

above_sum : (v : ℕ) (ts us : List Monomial) → Above v ts → Above v us → Above v (sum_terms ts us)
above_sum v [] us h k = k
above_sum v (t ∷ ts) us h k = above_add v t (sum_terms ts us) h.0 (above_sum v ts us h.1 k)

above_scale : (v : ℕ) (k : ℤ) (us : List Monomial) → Above v us → Above v (scale_terms k us)
above_scale v k [] h = tt
above_scale v k (u ∷ us) h = all_join (λ x. v < x.0) (term_list (u.0, k *ℤ u.1)) (scale_terms k us) (all_list (λ x. v < x.0) (u.0, k *ℤ u.1) h.0) (above_scale v k us h.1)

pub add_less : (t u : Monomial) (us : List Monomial) → t.0 < u.0 → add_term t (u ∷ us) ≡ term_list t ++ u ∷ us
add_less t u us lt =
    let test : nat_lt t.0 u.0 ≡ true = grind (arith, nat_tests) in
    ap (λ b. if b then term_list t ++ u ∷ us else if t.0 == u.0 then term_list (t.0, t.1 +ℤ u.1) ++ us else u ∷ add_term t us) test

add_front : (t : Monomial) (us : List Monomial) → Above t.0 us → add_term t us ≡ term_list t ++ us
add_front t [] h = sym (append_none (term_list t))
add_front t (u ∷ us) h = add_less t u us h.0

pub add_past : (t u : Monomial) (us : List Monomial) → u.0 < t.0 → add_term t (u ∷ us) ≡ u ∷ add_term t us
add_past t u us lt =
    let test : nat_lt t.0 u.0 ≡ false = grind (arith, nat_tests) in
    let same : (t.0 == u.0) ≡ false = grind (arith, nat_tests) in
    ap (λ b. if b then term_list t ++ u ∷ us else if t.0 == u.0 then term_list (t.0, t.1 +ℤ u.1) ++ us else u ∷ add_term t us) test
    ∙ ap (λ b. if b then term_list (t.0, t.1 +ℤ u.1) ++ us else u ∷ add_term t us) same

pub add_same : (t u : Monomial) (us : List Monomial) → t.0 ≡ u.0 → add_term t (u ∷ us) ≡ term_list (t.0, t.1 +ℤ u.1) ++ us
add_same t u us e =
    let test : nat_lt t.0 u.0 ≡ false = grind (arith, nat_tests) in
    let same : (t.0 == u.0) ≡ true = grind (arith, nat_tests) in
    ap (λ b. if b then term_list t ++ u ∷ us else if t.0 == u.0 then term_list (t.0, t.1 +ℤ u.1) ++ us else u ∷ add_term t us) test
    ∙ ap (λ b. if b then term_list (t.0, t.1 +ℤ u.1) ++ us else u ∷ add_term t us) same

add_past_list : (t u : Monomial) (us : List Monomial) → u.0 < t.0 → add_term t (term_list u ++ us) ≡ term_list u ++ add_term t us
add_past_list t u us lt =
    elim (is_zero u.1) as (λ b. add_term t ((if b then [] else u ∷ []) ++ us) ≡ (if b then [] else u ∷ []) ++ add_term t us) [ true ↦ refl | false ↦ add_past t u us lt ]

pub zero_or_not : (z : ℤ) → ((is_zero z ≡ true) × (z ≡ pos 0)) ⊎ (is_zero z ≡ false)
zero_or_not (pos zero) = inl (refl, refl)
zero_or_not (pos (suc n)) = inr (grind (arith, nat_tests))
zero_or_not (negsuc n) = inr (grind (arith, nat_tests))

sum_past : (u : Monomial) (ts us : List Monomial) → Above u.0 ts → sum_terms ts (term_list u ++ us) ≡ term_list u ++ sum_terms ts us
sum_past u [] us h = refl
sum_past u (t ∷ ts) us h = ap (add_term t) (sum_past u ts us h.1) ∙ add_past_list t u (sum_terms ts us) h.0

-- the first term of a sum
pub sum_left : (t : Monomial) (ts : List Monomial) → Rising (t ∷ ts) → sum_terms (t ∷ ts) [] ≡ term_list t ++ sum_terms ts []
sum_left t ts h = add_front t (sum_terms ts []) (above_sum t.0 ts [] h.0 tt)

pub sum_less : (k : ℤ) (t u : Monomial) (ts us : List Monomial) → t.0 < u.0 → Rising (t ∷ ts) → Rising (u ∷ us) → sum_terms (t ∷ ts) (scale_terms k (u ∷ us)) ≡ term_list t ++ sum_terms ts (scale_terms k (u ∷ us))
sum_less k t u ts us lt h g =
    add_front t (sum_terms ts (scale_terms k (u ∷ us))) (above_sum t.0 ts (scale_terms k (u ∷ us)) h.0 (above_scale t.0 k (u ∷ us) (lt, above_more t.0 u.0 us lt g.0)))

pub sum_more : (k : ℤ) (t u : Monomial) (ts us : List Monomial) → u.0 < t.0 → Rising (t ∷ ts) → sum_terms (t ∷ ts) (scale_terms k (u ∷ us)) ≡ term_list (u.0, k *ℤ u.1) ++ sum_terms (t ∷ ts) (scale_terms k us)
sum_more k t u ts us lt h = sum_past (u.0, k *ℤ u.1) (t ∷ ts) (scale_terms k us) (lt, above_more u.0 t.0 ts lt h.0)

add_list : (t : Monomial) (v : ℕ) (z : ℤ) (us : List Monomial) → t.0 ≡ v → Above t.0 us → add_term t (term_list (v, z) ++ us) ≡ term_list (t.0, t.1 +ℤ z) ++ us
add_list t v z us e h =
    elim (zero_or_not z) [
      | inl p ↦
          let plus : t.1 ≡ t.1 +ℤ z = omega (arith, ints, p.1) in
          ap (λ b. add_term t ((if b then [] else (v, z) ∷ []) ++ us)) p.0
          ∙ add_front t us h
          ∙ ap (λ y. term_list (t.0, y) ++ us) plus
      | inr q ↦
          ap (λ b. add_term t ((if b then [] else (v, z) ∷ []) ++ us)) q
          ∙ add_same t (v, z) us e
    ]

pub sum_same : (k : ℤ) (t u : Monomial) (ts us : List Monomial) → t.0 ≡ u.0 → Rising (t ∷ ts) → Rising (u ∷ us) → sum_terms (t ∷ ts) (scale_terms k (u ∷ us)) ≡ term_list (t.0, t.1 +ℤ k *ℤ u.1) ++ sum_terms ts (scale_terms k us)
sum_same k t u ts us e h g =
    let above : Above u.0 ts = subst (λ v. Above v ts) e h.0 in
    let under : Above t.0 us = subst (λ v. Above v us) (sym e) g.0 in
    ap (add_term t) (sum_past (u.0, k *ℤ u.1) ts (scale_terms k us) above)
    ∙ add_list t u.0 (k *ℤ u.1) (sum_terms ts (scale_terms k us)) e (above_sum t.0 ts (scale_terms k us) h.0 (above_scale t.0 k us under))

-- a list from a place on, with the term that was read there
dropped : (a : List Monomial) (i : ℕ) (t : Monomial) → i < length a → t ≡ get_or a i t → drop i a ≡ t ∷ drop (i + 1) a
dropped a i t p e = rw add-one (drop-cons a i t p ∙ ap (λ x. x ∷ drop (suc i) a) (sym e))

drop_end : (xs : List Monomial) (i : ℕ) → length xs ≤ i → drop i xs ≡ []
drop_end [] zero h = refl
drop_end [] (suc i) h = refl
drop_end (x ∷ xs) zero h = absurd (omega (arith, h))
drop_end (x ∷ xs) (suc i) h = drop_end xs i (omega (arith, h))

-- the terms a from place i on, and k times the terms b from place j on
abbrev pub rest_of : List Monomial → List Monomial → ℤ → ℕ → ℕ → List Monomial
rest_of a b k i j = sum_terms (drop i a) (scale_terms k (drop j b))

pub next_left : (a b : List Monomial) (k : ℤ) (i j : ℕ) (t : Monomial) → AreTerms a → i < length a → length b ≤ j → t ≡ get_or a i t → rest_of a b k i j ≡ term_list t ++ rest_of a b k (i + 1) j
next_left a b k i j t h p q e =
    let da : drop i a ≡ t ∷ drop (i + 1) a = dropped a i t p e in
    let db : drop j b ≡ [] = drop_end b j q in
    ap (λ s. sum_terms s (scale_terms k (drop j b))) da
    ∙ ap (λ s. sum_terms (t ∷ drop (i + 1) a) (scale_terms k s)) db
    ∙ sum_left t (drop (i + 1) a) (subst Rising da (rising_drop i a (rising_of a h.0)))
    ∙ ap (λ s. term_list t ++ sum_terms (drop (i + 1) a) (scale_terms k s)) (sym db)

pub next_right : (a b : List Monomial) (k : ℤ) (i j : ℕ) (u : Monomial) → length a ≤ i → j < length b → u ≡ get_or b j u → rest_of a b k i j ≡ term_list (u.0, k *ℤ u.1) ++ rest_of a b k i (j + 1)
next_right a b k i j u p q e =
    let da : drop i a ≡ [] = drop_end a i p in
    let db : drop j b ≡ u ∷ drop (j + 1) b = dropped b j u q e in
    ap (λ s. sum_terms s (scale_terms k (drop j b))) da
    ∙ ap (λ s. sum_terms [] (scale_terms k s)) db
    ∙ ap (λ s. term_list (u.0, k *ℤ u.1) ++ sum_terms s (scale_terms k (drop (j + 1) b))) (sym da)

pub next_less : (a b : List Monomial) (k : ℤ) (i j : ℕ) (t u : Monomial) → AreTerms a → AreTerms b → i < length a → j < length b → t ≡ get_or a i t → u ≡ get_or b j u → t.0 < u.0 → rest_of a b k i j ≡ term_list t ++ rest_of a b k (i + 1) j
next_less a b k i j t u h g p q e d lt =
    let da : drop i a ≡ t ∷ drop (i + 1) a = dropped a i t p e in
    let db : drop j b ≡ u ∷ drop (j + 1) b = dropped b j u q d in
    ap (λ s. sum_terms s (scale_terms k (drop j b))) da
    ∙ ap (λ s. sum_terms (t ∷ drop (i + 1) a) (scale_terms k s)) db
    ∙ sum_less k t u (drop (i + 1) a) (drop (j + 1) b) lt (subst Rising da (rising_drop i a (rising_of a h.0))) (subst Rising db (rising_drop j b (rising_of b g.0)))
    ∙ ap (λ s. term_list t ++ sum_terms (drop (i + 1) a) (scale_terms k s)) (sym db)

pub next_more : (a b : List Monomial) (k : ℤ) (i j : ℕ) (t u : Monomial) → AreTerms a → AreTerms b → i < length a → j < length b → t ≡ get_or a i t → u ≡ get_or b j u → u.0 < t.0 → rest_of a b k i j ≡ term_list (u.0, k *ℤ u.1) ++ rest_of a b k i (j + 1)
next_more a b k i j t u h g p q e d lt =
    let da : drop i a ≡ t ∷ drop (i + 1) a = dropped a i t p e in
    let db : drop j b ≡ u ∷ drop (j + 1) b = dropped b j u q d in
    ap (λ s. sum_terms s (scale_terms k (drop j b))) da
    ∙ ap (λ s. sum_terms (t ∷ drop (i + 1) a) (scale_terms k s)) db
    ∙ sum_more k t u (drop (i + 1) a) (drop (j + 1) b) lt (subst Rising da (rising_drop i a (rising_of a h.0)))
    ∙ ap (λ s. term_list (u.0, k *ℤ u.1) ++ sum_terms s (scale_terms k (drop (j + 1) b))) (sym da)

pub next_same : (a b : List Monomial) (k : ℤ) (i j : ℕ) (t u : Monomial) → AreTerms a → AreTerms b → i < length a → j < length b → t ≡ get_or a i t → u ≡ get_or b j u → t.0 ≡ u.0 → rest_of a b k i j ≡ term_list (t.0, t.1 +ℤ k *ℤ u.1) ++ rest_of a b k (i + 1) (j + 1)
next_same a b k i j t u h g p q e d same =
    let da : drop i a ≡ t ∷ drop (i + 1) a = dropped a i t p e in
    let db : drop j b ≡ u ∷ drop (j + 1) b = dropped b j u q d in
    ap (λ s. sum_terms s (scale_terms k (drop j b))) da
    ∙ ap (λ s. sum_terms (t ∷ drop (i + 1) a) (scale_terms k s)) db
    ∙ sum_same k t u (drop (i + 1) a) (drop (j + 1) b) same (subst Rising da (rising_drop i a (rising_of a h.0))) (subst Rising db (rising_drop j b (rising_of b g.0)))

-- sums and multiples are terms
rising_join : (t : Monomial) (us : List Monomial) → Above t.0 us → Rising us → Rising (term_list t ++ us)
rising_join t us h k = elim (is_zero t.1) as (λ b. Rising ((if b then [] else t ∷ []) ++ us)) [ true ↦ k | false ↦ (h, k) ]

rising_add : (t : Monomial) (us : List Monomial) → Rising us → Rising (add_term t us)
rising_add t [] h = elim (is_zero t.1) as (λ b. Rising (if b then [] else t ∷ [])) [ true ↦ tt | false ↦ (tt, tt) ]
rising_add t (u ∷ us) h =
    let cases : (t.0 < u.0) ⊎ ((t.0 ≡ u.0) ⊎ (u.0 < t.0)) = grind arith in
    elim cases [
      | inl lt ↦
          let above : Above t.0 (u ∷ us) = (lt, above_more t.0 u.0 us lt h.0) in
          subst Rising (sym (add_front t (u ∷ us) above)) (rising_join t (u ∷ us) above (h.0, h.1))
      | inr more ↦ elim more [
        | inl same ↦ subst Rising (sym (add_same t u us same)) (rising_join (t.0, t.1 +ℤ u.1) us (subst (λ v. Above v us) (sym same) h.0) h.1)
        | inr lt ↦ subst Rising (sym (add_past t u us lt)) (above_add u.0 t us lt h.0, rising_add t us h.1)
      ]
    ]

rising_sum : (ts us : List Monomial) → Rising us → Rising (sum_terms ts us)
rising_sum [] us h = h
rising_sum (t ∷ ts) us h = rising_add t (sum_terms ts us) (rising_sum ts us h)

rising_scale : (k : ℤ) (us : List Monomial) → Rising us → Rising (scale_terms k us)
rising_scale k [] h = tt
rising_scale k (u ∷ us) h = rising_join (u.0, k *ℤ u.1) (scale_terms k us) (above_scale u.0 k us h.0) (rising_scale k us h.1)

no_zeros_list : (t : Monomial) → NoZeros (term_list t)
no_zeros_list t =
    elim (zero_or_not t.1) [
      | inl p ↦ subst (λ b. NoZeros (if b then [] else t ∷ [])) (sym p.0) tt
      | inr q ↦ subst (λ b. NoZeros (if b then [] else t ∷ [])) (sym q) (subst (λ b. IsTrue (not b)) (sym q) (let yes : IsTrue true = refl in yes), tt)
    ]

no_zeros_join : (xs ys : List Monomial) → NoZeros xs → NoZeros ys → NoZeros (xs ++ ys)
no_zeros_join xs ys h k = all_join (λ t. IsTrue (not (is_zero t.1))) xs ys h k

no_zeros_add : (t : Monomial) (us : List Monomial) → NoZeros us → NoZeros (add_term t us)
no_zeros_add t [] h = no_zeros_list t
no_zeros_add t (u ∷ us) h =
    elim (nat_lt t.0 u.0) as (λ b. NoZeros (if b then term_list t ++ u ∷ us else if t.0 == u.0 then term_list (t.0, t.1 +ℤ u.1) ++ us else u ∷ add_term t us)) [
      | true ↦ no_zeros_join (term_list t) (u ∷ us) (no_zeros_list t) h
      | false ↦ elim (t.0 == u.0) as (λ b. NoZeros (if b then term_list (t.0, t.1 +ℤ u.1) ++ us else u ∷ add_term t us)) [
        | true ↦ no_zeros_join (term_list (t.0, t.1 +ℤ u.1)) us (no_zeros_list (t.0, t.1 +ℤ u.1)) h.1
        | false ↦ (h.0, no_zeros_add t us h.1)
      ]
    ]

no_zeros_sum : (ts us : List Monomial) → NoZeros us → NoZeros (sum_terms ts us)
no_zeros_sum [] us h = h
no_zeros_sum (t ∷ ts) us h = no_zeros_add t (sum_terms ts us) (no_zeros_sum ts us h)

no_zeros_scale : (k : ℤ) (us : List Monomial) → NoZeros (scale_terms k us)
no_zeros_scale k [] = tt
no_zeros_scale k (u ∷ us) = no_zeros_join (term_list (u.0, k *ℤ u.1)) (scale_terms k us) (no_zeros_list (u.0, k *ℤ u.1)) (no_zeros_scale k us)

pub combined_terms : (a b : List Monomial) (k : ℤ) → AreTerms b → AreTerms (sum_terms a (scale_terms k b))
combined_terms a b k h =
    (to_rising (sum_terms a (scale_terms k b)) (rising_sum a (scale_terms k b) (rising_scale k b (rising_of b h.0))), no_zeros_sum a (scale_terms k b) (no_zeros_scale k b))

-- one times terms without zeros
pub scale_one : (us : List Monomial) → NoZeros us → scale_terms (pos 1) us ≡ us
scale_one [] h = refl
scale_one (u ∷ us) h =
    let once : pos 1 *ℤ u.1 ≡ u.1 = omega (arith, ints) in
    ap (λ z. term_list (u.0, z) ++ scale_terms (pos 1) us) once
    ∙ elim (zero_or_not u.1) [
      | inl p ↦ absurd (never (is_zero u.1) p.0 h.0)
      | inr q ↦ ap (λ b. (if b then [] else u ∷ []) ++ scale_terms (pos 1) us) q ∙ ap (λ s. u ∷ s) (scale_one us h.1)
    ]
  where
    never : (b : Bool) → b ≡ true → IsTrue (not b) → ⊥
    never b e h = let no : IsTrue false = subst (λ b. IsTrue (not b)) e h in cc

-- a merge has made the items, all of which fit, and goes on from places i and j
pub record Summing (a b items : List Monomial) (k : ℤ) (i j : ℕ) : Type 0 where
  pub left : i ≤ length a
  pub right : j ≤ length b
  pub small : fits_terms items ≡ true
  pub rest : items ++ rest_of a b k i j ≡ sum_terms a (scale_terms k b)

fits_join : (xs ys : List Monomial) → fits_terms (xs ++ ys) ≡ (fits_terms xs && fits_terms ys)
fits_join [] ys = refl
fits_join (x ∷ xs) ys = elim (fits x.1) as (λ b. (b && fits_terms (xs ++ ys)) ≡ ((b && fits_terms xs) && fits_terms ys)) [ true ↦ fits_join xs ys | false ↦ refl ]

pub skip_zero : (a b items : List Monomial) (k : ℤ) (i j l r : ℕ) (t : Monomial) → Summing a b items k i j → l ≤ length a → r ≤ length b → rest_of a b k i j ≡ term_list t ++ rest_of a b k l r → t.1 ≡ pos 0 → Summing a b items k l r
skip_zero a b items k i j l r t m p q e none = record {
  left = p;
  right = q;
  small = m.small;
  rest = ap (λ s. items ++ s) (sym (e ∙ ap (λ z. (if is_zero z then [] else t ∷ []) ++ rest_of a b k l r) none)) ∙ m.rest;
}

one_term : (t : Monomial) → (¬ (t.1 ≡ pos 0)) → term_list t ≡ t ∷ []
one_term t other = elim (zero_or_not t.1) [ inl p ↦ absurd (other p.1) | inr q ↦ ap (λ b. if b then [] else t ∷ []) q ]

pub put_term : (a b items : List Monomial) (k : ℤ) (i j l r : ℕ) (t : Monomial) → Summing a b items k i j → l ≤ length a → r ≤ length b → rest_of a b k i j ≡ term_list t ++ rest_of a b k l r → (¬ (t.1 ≡ pos 0)) → fits t.1 ≡ true → Summing a b (items ++ t ∷ []) k l r
put_term a b items k i j l r t m p q e other small = record {
  left = p;
  right = q;
  small = fits_join items (t ∷ []) ∙ ap (λ b. b && fits_terms (t ∷ [])) m.small ∙ ap (λ b. b && true) small;
  rest = append_assoc items (t ∷ []) (rest_of a b k l r) ∙ ap (λ s. items ++ s) (sym (e ∙ ap (λ s. s ++ rest_of a b k l r) (one_term t other))) ∙ m.rest;
}

pub too_large : (a b items : List Monomial) (k : ℤ) (i j l r : ℕ) (t : Monomial) → Summing a b items k i j → rest_of a b k i j ≡ term_list t ++ rest_of a b k l r → (¬ (t.1 ≡ pos 0)) → fits t.1 ≡ false → fits_terms (sum_terms a (scale_terms k b)) ≡ false
too_large a b items k i j l r t m e other large =
    ap fits_terms (sym m.rest)
    ∙ fits_join items (rest_of a b k i j)
    ∙ ap (λ x. x && fits_terms (rest_of a b k i j)) m.small
    ∙ ap fits_terms (e ∙ ap (λ s. s ++ rest_of a b k l r) (one_term t other))
    ∙ ap (λ x. x && fits_terms (rest_of a b k l r)) large

pub sum_end : (a b items : List Monomial) (k : ℤ) (i j : ℕ) → length a ≤ i → length b ≤ j → Summing a b items k i j → (items ≡ sum_terms a (scale_terms k b)) × (fits_terms (sum_terms a (scale_terms k b)) ≡ true)
sum_end a b items k i j p q m =
    let da : drop i a ≡ [] = drop_end a i p in
    let db : drop j b ≡ [] = drop_end b j q in
    let e : items ≡ sum_terms a (scale_terms k b) = sym (append_none items) ∙ ap (λ s. items ++ s) (sym (ap (λ s. sum_terms s (scale_terms k (drop j b))) da ∙ ap (λ s. sum_terms [] (scale_terms k s)) db)) ∙ m.rest in
    (e, ap fits_terms (sym e) ∙ m.small)

within_form : (x y : Bool) → x ≡ true → y ≡ true → (x && y) ≡ true
within_form x y e f = ap (λ b. b && y) e ∙ f

-- what is known of a form, once its terms fit
pub form_fits : (ts : List Monomial) (c : ℤ) → fits_terms ts ≡ true → fits c ≡ true → (fits_terms ts && fits c) ≡ true
form_fits ts c e f = within_form (fits_terms ts) (fits c) e f

pub constant_too_large : (ts : List Monomial) (c : ℤ) → fits_terms ts ≡ true → fits c ≡ false → (fits_terms ts && fits c) ≡ false
constant_too_large ts c e f = ap (λ b. b && fits c) e ∙ f

pub terms_too_large : (ts : List Monomial) (c : ℤ) → fits_terms ts ≡ false → (fits_terms ts && fits c) ≡ false
terms_too_large ts c e = ap (λ b. b && fits c) e

-- a term that was read is read again, whatever stands for one that is not there
pub read_again : (a : List Monomial) (i : ℕ) (d t : Monomial) → i < length a → get_or a i d ≡ get_or a i t
read_again [] i d t p = absurd (omega (arith, p))
read_again (x ∷ a) zero d t p = refl
read_again (x ∷ a) (suc i) d t p = read_again a i d t (omega (arith, p))

-- the coefficient of a first term, as the code has it
pub renumbered : (v : ℕ) (z y : ℤ) (ts : List Monomial) → y ≡ z → term_list (v, z) ++ ts ≡ term_list (v, y) ++ ts
renumbered v z y ts e = ap (λ x. term_list (v, x) ++ ts) (sym e)

-- a form and one times another
pub once : (a b : Form) → NoZeros b.terms → combined_form a.terms a.constant (pos 1) b ≡ form_sum a b
once a b h =
    let same : pos 1 *ℤ b.constant ≡ b.constant = omega (arith, ints) in
    ap (λ ts. form_sum a (record { terms = ts; constant = pos 1 *ℤ b.constant })) (scale_one b.terms h)
    ∙ ap (λ z. form_sum a (record { terms = b.terms; constant = z })) same

abbrev form_of : List Monomial → ℤ → Form
form_of ts c = record { terms = ts; constant = c }

-- the terms that a merge has made, from names that the code has for its arguments
pub terms_made : (ts xs us vs : List Monomial) (k l : ℤ) → l ≡ k → vs ≡ us → (xs ≡ sum_terms ts (scale_terms l vs)) × (fits_terms (sum_terms ts (scale_terms l vs)) ≡ true) → (xs ≡ sum_terms ts (scale_terms k us)) × (fits_terms (sum_terms ts (scale_terms k us)) ≡ true)
terms_made ts xs us vs k l e d h =
    let same : sum_terms ts (scale_terms l vs) ≡ sum_terms ts (scale_terms k us) = ap (λ x. sum_terms ts (scale_terms x vs)) e ∙ ap (λ s. sum_terms ts (scale_terms k s)) d in
    (h.0 ∙ same, ap fits_terms (sym same) ∙ h.1)

module _ (ts xs : List Monomial) (c k z : ℤ) (b : Form) (made : (xs ≡ sum_terms ts (scale_terms k b.terms)) × (fits_terms (sum_terms ts (scale_terms k b.terms)) ≡ true)) (sum : z ≡ (c +ℤ k *ℤ b.constant)) (small : fits z ≡ true) where
  all_fit : fits_form (combined_form ts c k b) ≡ true
  all_fit = form_fits (sum_terms ts (scale_terms k b.terms)) (c +ℤ k *ℤ b.constant) made.1 (ap fits (sym sum) ∙ small)

  pub too_many : 10 < length xs → (fits_form (combined_form ts c k b) ≡ true) × (has_few_terms (combined_form ts c k b) ≡ false)
  too_many h =
      let many : nat_le (length xs) 10 ≡ false = grind (arith, nat_tests) in
      (all_fit, ap (λ s. nat_le (length s) 10) (sym made.0) ∙ many)

  pub form_made : AreTerms b.terms → length xs ≤ 10 → (form_of xs z ≡ combined_form ts c k b) × IsForm (combined_form ts c k b)
  form_made h p =
      let few : nat_le (length xs) 10 ≡ true = grind (arith, nat_tests) in
      let same : form_of xs z ≡ combined_form ts c k b = ap (λ s. form_of s z) made.0 ∙ ap (form_of (sum_terms ts (scale_terms k b.terms))) sum in (
        same,
        record {
          terms = combined_terms ts b.terms k h;
          few = ap (λ s. nat_le (length s) 10) (sym made.0) ∙ few;
          small = all_fit;
        },
      )
