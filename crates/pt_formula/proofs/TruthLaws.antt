-- Truth depends on the free variables alone, and what that means for solutions and widened sets.
use Rattle.std.proofs.Common.{◌≡◌, ◌↔◌, ◌⊎◌, inl, inr, ℕ, ◌<◌, true, false, not, nat_lt, ◌==◌, if◌then◌else◌, List, [], ◌∷◌, length, map, refl, ap, sym, subst, ◌∙◌, arith}
use Rattle.std.proofs.lemmas.Bool.Decides.{nat_tests}
use Rattle.std.specs.Prelude.{ℤ, ◌+ℤ◌, ◌*ℤ◌}
use Rattle.std.specs.List.{AllByRecursion}
use Rattle.pt_atoms.specs.Atoms.{Compares}
use Rattle.pt_atoms.specs.Sums.{dot}
use Rattle.pt_formula.specs.Forms.{Monomial, IsIncreasing}
use Rattle.pt_formula.specs.Values.{terms_value}
use Rattle.pt_formula.specs.Truth.{Tree, True, False, Atom, Not, And, Or, Iff, Xor, Exists, Holds, updated, insert_var, union, without, free_variables, valuation}

-- f and g give the same values to the variables
abbrev pub Agree : (ℕ → ℤ) → (ℕ → ℤ) → List ℕ → Type 0
Agree f g vs = AllByRecursion (λ v. f v ≡ g v) vs

agree_insert : (f g : ℕ → ℤ) (v : ℕ) (us : List ℕ) → Agree f g (insert_var v us) → (f v ≡ g v) × Agree f g us
agree_insert f g v [] h = (h.0, tt)
agree_insert f g v (u ∷ us) h =
    let cases : (v < u) ⊎ ((v ≡ u) ⊎ (u < v)) = grind arith in
    elim cases [
      | inl lt ↦
          let test : nat_lt v u ≡ true = grind (arith, nat_tests) in
          let k : Agree f g (v ∷ u ∷ us) = subst (λ b. Agree f g (if b then v ∷ u ∷ us else if v == u then u ∷ us else u ∷ insert_var v us)) test h in
          (k.0, k.1)
      | inr more ↦ elim more [
        | inl same ↦
            let test : nat_lt v u ≡ false = grind (arith, nat_tests) in
            let equal : (v == u) ≡ true = grind (arith, nat_tests) in
            let k : Agree f g (if v == u then u ∷ us else u ∷ insert_var v us) = subst (λ b. Agree f g (if b then v ∷ u ∷ us else if v == u then u ∷ us else u ∷ insert_var v us)) test h in
            let l : Agree f g (u ∷ us) = subst (λ b. Agree f g (if b then u ∷ us else u ∷ insert_var v us)) equal k in
            (subst (λ w. f w ≡ g w) (sym same) l.0, l)
        | inr lt ↦
            let test : nat_lt v u ≡ false = grind (arith, nat_tests) in
            let equal : (v == u) ≡ false = grind (arith, nat_tests) in
            let k : Agree f g (if v == u then u ∷ us else u ∷ insert_var v us) = subst (λ b. Agree f g (if b then v ∷ u ∷ us else if v == u then u ∷ us else u ∷ insert_var v us)) test h in
            let l : Agree f g (u ∷ insert_var v us) = subst (λ b. Agree f g (if b then u ∷ us else u ∷ insert_var v us)) equal k in
            let rest = agree_insert f g v us l.1 in
            (rest.0, (l.0, rest.1))
      ]
    ]

agree_union : (f g : ℕ → ℤ) (vs us : List ℕ) → Agree f g (union vs us) → Agree f g vs × Agree f g us
agree_union f g [] us h = (tt, h)
agree_union f g (v ∷ vs) us h =
    let first = agree_insert f g v (union vs us) h in
    let rest = agree_union f g vs us first.1 in
    ((first.0, rest.0), rest.1)

-- with a value for v, f and g agree on v too
agree_updated : (f g : ℕ → ℤ) (v : ℕ) (k : ℤ) (us : List ℕ) → Agree f g (without v us) → Agree (updated f v k) (updated g v k) us
agree_updated f g v k [] h = tt
agree_updated f g v k (u ∷ us) h =
    let cases : (u ≡ v) ⊎ (¬ (u ≡ v)) = grind arith in
    elim cases [
      | inl same ↦
          let back : (v == u) ≡ true = grind (arith, nat_tests) in
          let there : (u == v) ≡ true = grind (arith, nat_tests) in
          let rest : Agree f g (without v us) = subst (λ b. Agree f g (if not b then u ∷ without v us else without v us)) back h in
          (ap (λ b. if b then k else f u) there ∙ sym (ap (λ b. if b then k else g u) there), agree_updated f g v k us rest)
      | inr other ↦
          let back : (v == u) ≡ false = grind (arith, nat_tests) in
          let there : (u == v) ≡ false = grind (arith, nat_tests) in
          let rest : Agree f g (u ∷ without v us) = subst (λ b. Agree f g (if not b then u ∷ without v us else without v us)) back h in
          (ap (λ b. if b then k else f u) there ∙ rest.0 ∙ sym (ap (λ b. if b then k else g u) there), agree_updated f g v k us rest.1)
    ]

agree_back : (f g : ℕ → ℤ) (vs : List ℕ) → Agree f g vs → Agree g f vs
agree_back f g [] h = tt
agree_back f g (v ∷ vs) h = (sym h.0, agree_back f g vs h.1)

pub same_sum : (f g : ℕ → ℤ) (ts : List Monomial) → Agree f g (map (λ t. t.0) ts) → terms_value f ts ≡ terms_value g ts
same_sum f g [] h = refl
same_sum f g (t ∷ ts) h = ap (λ x. t.1 *ℤ x +ℤ terms_value f ts) h.0 ∙ ap (λ s. t.1 *ℤ g t.0 +ℤ s) (same_sum f g ts h.1)

-- truth under f is truth under g
pub carried : (t : Tree) (f g : ℕ → ℤ) → Agree f g (free_variables t) → Holds t f → Holds t g
carried True f g e h = tt
carried False f g e h = h
carried (Atom kind terms constant) f g e h = subst (λ s. Compares kind s constant) (same_sum f g terms e) h
carried (Not a) f g e h = λ k. h (carried a g f (agree_back f g (free_variables a) e) k)
carried (And a b) f g e h =
    let p = agree_union f g (free_variables a) (free_variables b) e in
    (carried a f g p.0 h.0, carried b f g p.1 h.1)
carried (Or a b) f g e h =
    let p = agree_union f g (free_variables a) (free_variables b) e in
    elim h [ inl k ↦ inl (carried a f g p.0 k) | inr k ↦ inr (carried b f g p.1 k) ]
carried (Iff a b) f g e h =
    let p = agree_union f g (free_variables a) (free_variables b) e in
    let q = agree_back f g (free_variables a) p.0 in
    let r = agree_back f g (free_variables b) p.1 in
    (λ k. carried b f g p.1 (h.0 (carried a g f q k)), λ k. carried a f g p.0 (h.1 (carried b g f r k)))
carried (Xor a b) f g e h =
    let p = agree_union f g (free_variables a) (free_variables b) e in
    let q = agree_back f g (free_variables a) p.0 in
    let r = agree_back f g (free_variables b) p.1 in
    elim h [ inl k ↦ inl (carried a f g p.0 k.0, λ l. k.1 (carried b g f r l)) | inr k ↦ inr (λ l. k.0 (carried a g f q l), carried b f g p.1 k.1) ]
carried (Exists v a) f g e h = (h.0, carried a (updated f v h.0) (updated g v h.0) (agree_updated f g v h.0 (free_variables a) e) h.1)

pub same_truth : (t : Tree) (f g : ℕ → ℤ) → Agree f g (free_variables t) → Holds t f ↔ Holds t g
same_truth t f g e = (carried t f g e, carried t g f (agree_back f g (free_variables t) e))

-- values that are read from a vector made of them are the same
read_more : (f : ℕ → ℤ) (v : ℕ) (x : ℤ) (vs : List ℕ) (z : List ℤ) (us : List ℕ) → x ≡ f v → Agree (valuation vs z) f us → Agree (valuation (v ∷ vs) (x ∷ z)) f us
read_more f v x vs z [] e h = tt
read_more f v x vs z (u ∷ us) e h =
    let cases : (u ≡ v) ⊎ (¬ (u ≡ v)) = grind arith in
    elim cases [
      | inl same ↦
          let there : (u == v) ≡ true = grind (arith, nat_tests) in
          (ap (λ b. if b then x else valuation vs z u) there ∙ e ∙ ap f (sym same), read_more f v x vs z us e h.1)
      | inr other ↦
          let there : (u == v) ≡ false = grind (arith, nat_tests) in
          (ap (λ b. if b then x else valuation vs z u) there ∙ h.0, read_more f v x vs z us e h.1)
    ]

pub read_back : (f : ℕ → ℤ) (vs : List ℕ) → Agree (valuation vs (map f vs)) f vs
read_back f [] = tt
read_back f (v ∷ vs) =
    let same : (v == v) ≡ true = grind (arith, nat_tests) in
    (ap (λ b. if b then f v else valuation vs (map f vs) v) same, read_more f v (f v) vs (map f vs) vs refl (read_back f vs))

-- the first variable's value does not matter for the later ones
later : (v : ℕ) (x : ℤ) (vs : List ℕ) (z : List ℤ) (us : List ℕ) → AllByRecursion (λ u. v < u) us → Agree (valuation (v ∷ vs) (x ∷ z)) (valuation vs z) us
later v x vs z [] h = tt
later v x vs z (u ∷ us) h =
    let lt : v < u = h.0 in
    let there : (u == v) ≡ false = grind (arith, nat_tests) in
    (ap (λ b. if b then x else valuation vs z u) there, later v x vs z us h.1)

-- the sum of terms at a vector over their variables is that of the coefficients and the vector
pub sum_at : (ts : List Monomial) (z : List ℤ) → IsIncreasing (map (λ t. t.0) ts) → length z ≡ length ts → terms_value (valuation (map (λ t. t.0) ts) z) ts ≡ dot (map (λ t. t.1) ts) z
sum_at [] z h e = refl
sum_at (t ∷ ts) [] h e = absurd (omega (arith, e))
sum_at (t ∷ ts) (x ∷ z) h e =
    let vs : List ℕ = map (λ t. t.0) ts in
    let same : (t.0 == t.0) ≡ true = grind (arith, nat_tests) in
    ap (λ b. t.1 *ℤ (if b then x else valuation vs z t.0) +ℤ terms_value (valuation (t.0 ∷ vs) (x ∷ z)) ts) same
    ∙ ap (λ s. t.1 *ℤ x +ℤ s) (same_sum (valuation (t.0 ∷ vs) (x ∷ z)) (valuation vs z) ts (later t.0 x vs z vs h.0) ∙ sum_at ts z h.1 (omega (arith, e)))
