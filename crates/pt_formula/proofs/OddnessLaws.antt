-- Formulas that ask only for oddness do not tell values apart that agree up to it.
use Rattle.std.proofs.Common.{◌≡◌, ◌↔◌, ◌⊎◌, inl, inr, ℕ, suc, ◌+◌, ◌*◌, ◌/◌, ◌%◌, Bool, true, false, ◌||◌, ◌==◌, if◌then◌else◌, List, [], ◌∷◌, length, refl, ap, sym, subst, ◌∙◌, arith, eq-eqb}
use Rattle.std.proofs.lemmas.Bool.{cases_Bool, or_parts}
use Rattle.std.proofs.lemmas.Bool.Decides.{nat_tests}
use Rattle.std.proofs.lemmas.Int.{ints}
use Rattle.std.specs.Prelude.{ℤ, pos, negsuc, ◌+ℤ◌, ◌*ℤ◌, unsigned_abs}
use Rattle.std.specs.List.{AllByRecursion, list_any}
use Rattle.pt_atoms.specs.Atoms.{Compares}
use Rattle.pt_atoms.specs.Sums.{Congruent}
use Rattle.pt_formula.specs.Forms.{Monomial}
use Rattle.pt_formula.specs.Values.{terms_value}
use Rattle.pt_formula.specs.Truth.{Tree, True, False, Atom, Not, And, Or, Iff, Xor, Exists, Holds, Solutions, updated, free_variables, valuation}
use Rattle.pt_formula.specs.Oddness.{is_odd, truth_tree, AsksOddness, Agree, AgreeUpToOddness, AgreeUpToOddnessAt}
use Rattle.pt_formula.proofs.TruthLaws.{same_truth}

odd_there : (x k : ℤ) → (pos 1 *ℤ x +ℤ pos 0) ≡ (pos 1 +ℤ pos 2 *ℤ k) → is_odd x ≡ true
odd_there x k e =
    let odd : unsigned_abs x % 2 ≡ 1 = omega (arith, ints) in
    eq-eqb (unsigned_abs x % 2) 1 odd

odd_back : (x : ℤ) → is_odd x ≡ true → Congruent 2 (pos 1 *ℤ x +ℤ pos 0) (pos 1)
odd_back (pos n) h =
    let odd : n % 2 ≡ 1 = grind (arith, nat_tests) in
    (pos (n / 2), omega (arith, ints))
odd_back (negsuc n) h =
    let odd : suc n % 2 ≡ 1 = grind (arith, nat_tests) in
    (negsuc (n / 2), omega (arith, ints))

pub truth_atom : (v : ℕ) (values : ℕ → ℤ) → Holds (truth_tree v) values ↔ (is_odd (values v) ≡ true)
truth_atom v values = (λ h. odd_there (values v) h.0 h.1, odd_back (values v))

same_oddness : (b : Bool) (x y : ℤ) → Agree b x y → is_odd x ≡ is_odd y
same_oddness true x y h = h
same_oddness false x y h = ap is_odd h

agree_back : (b : Bool) (x y : ℤ) → Agree b x y → Agree b y x
agree_back true x y h = sym h
agree_back false x y h = sym h

agree_itself : (b : Bool) (x : ℤ) → Agree b x x
agree_itself true x = refl
agree_itself false x = refl

module _ (is_truth : ℕ → Bool) where
  pub all_back : (f g : ℕ → ℤ) → AgreeUpToOddness is_truth f g → AgreeUpToOddness is_truth g f
  all_back f g h v = agree_back (is_truth v) (f v) (g v) (h v)

  agree_at : (b : Bool) (v : ℕ) (k : ℤ) (f g : ℕ → ℤ) (u : ℕ) → Agree (is_truth u) (f u) (g u) → Agree (is_truth u) (if b then k else f u) (if b then k else g u)
  agree_at true v k f g u h = agree_itself (is_truth u) k
  agree_at false v k f g u h = h

  agree_updated : (f g : ℕ → ℤ) (v : ℕ) (k : ℤ) → AgreeUpToOddness is_truth f g → AgreeUpToOddness is_truth (updated f v k) (updated g v k)
  agree_updated f g v k h u = agree_at (u == v) v k f g u (h u)

  same_sum : (f g : ℕ → ℤ) → AgreeUpToOddness is_truth f g → (ts : List Monomial) → list_any (λ t. is_truth t.0) ts ≡ false → terms_value f ts ≡ terms_value g ts
  same_sum f g e [] h = refl
  same_sum f g e (t ∷ ts) h =
      let (none, rest) = or_parts (is_truth t.0) (list_any (λ t. is_truth t.0) ts) h in
      let same : f t.0 ≡ g t.0 = subst (λ b. Agree b (f t.0) (g t.0)) none (e t.0) in
      ap (λ x. t.1 *ℤ x +ℤ terms_value f ts) same ∙ ap (λ s. t.1 *ℤ g t.0 +ℤ s) (same_sum f g e ts rest)

  same_atom : (v : ℕ) (f g : ℕ → ℤ) → AgreeUpToOddness is_truth f g → Holds (truth_tree v) f → Holds (truth_tree v) g
  same_atom v f g e h =
      let same : is_odd (f v) ≡ is_odd (g v) = same_oddness (is_truth v) (f v) (g v) (e v) in
      (truth_atom v g).1 (sym same ∙ (truth_atom v f).0 h)

  -- truth under f is truth under g
  carried : (t : Tree) (f g : ℕ → ℤ) → AsksOddness is_truth t → AgreeUpToOddness is_truth f g → Holds t f → Holds t g
  carried True f g a e h = tt
  carried False f g a e h = h
  carried (Atom kind terms constant) f g a e h = elim a [
    | inl none ↦ subst (λ s. Compares kind s constant) (same_sum f g e terms none) h
    | inr one ↦ subst (λ t. Holds t g) (sym one.1) (same_atom one.0 f g e (subst (λ t. Holds t f) one.1 h))
  ]
  carried (Not p) f g a e h = λ k. h (carried p g f a (all_back f g e) k)
  carried (And p q) f g a e h = (carried p f g a.0 e h.0, carried q f g a.1 e h.1)
  carried (Or p q) f g a e h = elim h [ inl k ↦ inl (carried p f g a.0 e k) | inr k ↦ inr (carried q f g a.1 e k) ]
  carried (Iff p q) f g a e h =
      let d = all_back f g e in
      (λ k. carried q f g a.1 e (h.0 (carried p g f a.0 d k)), λ k. carried p f g a.0 e (h.1 (carried q g f a.1 d k)))
  carried (Xor p q) f g a e h =
      let d = all_back f g e in
      elim h [
        | inl k ↦ inl (carried p f g a.0 e k.0, λ l. k.1 (carried q g f a.1 d l))
        | inr k ↦ inr (λ l. k.0 (carried p g f a.0 d l), carried q f g a.1 e k.1)
      ]
  carried (Exists v p) f g a e h = (h.0, carried p (updated f v h.0) (updated g v h.0) a (agree_updated f g v h.0 e) h.1)

  pub same_of_all : (t : Tree) (f g : ℕ → ℤ) → AsksOddness is_truth t → AgreeUpToOddness is_truth f g → Holds t f ↔ Holds t g
  same_of_all t f g a e = (carried t f g a e, carried t g f a (all_back f g e))

  -- f, with the values of g for these variables
  filled : List ℕ → (ℕ → ℤ) → (ℕ → ℤ) → ℕ → ℤ
  filled [] f g = f
  filled (v ∷ vs) f g = updated (filled vs f g) v (g v)

  filled_at : (b : Bool) (u v : ℕ) (x : ℤ) (g : ℕ → ℤ) → (u == v) ≡ b → x ≡ g u → (if b then g v else x) ≡ g u
  filled_at true u v x g test e = let same : v ≡ u = grind (arith, nat_tests) in ap g same
  filled_at false u v x g test e = e

  filled_more : (v : ℕ) (vs us : List ℕ) (f g : ℕ → ℤ) → AllByRecursion (λ u. filled vs f g u ≡ g u) us → AllByRecursion (λ u. filled (v ∷ vs) f g u ≡ g u) us
  unfolding filled
  filled_more v vs [] f g h = tt
  filled_more v vs (u ∷ us) f g h = (filled_at (u == v) u v (filled vs f g u) g refl h.0, filled_more v vs us f g h.1)

  filled_is : (vs : List ℕ) (f g : ℕ → ℤ) → AllByRecursion (λ u. filled vs f g u ≡ g u) vs
  unfolding filled
  filled_is [] f g = tt
  filled_is (v ∷ vs) f g = (first (v == v) (eq-eqb v v refl), filled_more v vs vs f g (filled_is vs f g))
    where
      first : (b : Bool) → b ≡ true → (if b then g v else filled vs f g v) ≡ g v
      first b test = ap (λ c. if c then g v else filled vs f g v) test

  agree_filled_at : (b : Bool) (u v : ℕ) (x : ℤ) (f g : ℕ → ℤ) → (u == v) ≡ b → Agree (is_truth v) (f v) (g v) → Agree (is_truth u) (f u) x → Agree (is_truth u) (f u) (if b then g v else x)
  agree_filled_at true u v x f g test here rest = let same : v ≡ u = grind (arith, nat_tests) in subst (λ w. Agree (is_truth u) (f u) (g w)) (sym same) (subst (λ w. Agree (is_truth w) (f w) (g w)) same here)
  agree_filled_at false u v x f g test here rest = rest

  agree_filled : (vs : List ℕ) (f g : ℕ → ℤ) → AgreeUpToOddnessAt is_truth vs f g → AgreeUpToOddness is_truth f (filled vs f g)
  unfolding filled
  agree_filled [] f g h u = agree_itself (is_truth u) (f u)
  agree_filled (v ∷ vs) f g h u = agree_filled_at (u == v) u v (filled vs f g u) f g refl h.0 (agree_filled vs f g h.1 u)

  pub same_of_free : (t : Tree) (f g : ℕ → ℤ) → AsksOddness is_truth t → AgreeUpToOddnessAt is_truth (free_variables t) f g → Holds t f ↔ Holds t g
  same_of_free t f g a e =
      let vs = free_variables t in
      let p = same_of_all t f (filled vs f g) a (agree_filled vs f g e) in
      let q = same_truth t (filled vs f g) g (filled_is vs f g) in
      (λ h. q.0 (p.0 h), λ h. p.1 (q.1 h))

  pub same_solutions : (t : Tree) (y z : List ℤ) → AsksOddness is_truth t → length y ≡ length z → AgreeUpToOddnessAt is_truth (free_variables t) (valuation (free_variables t) y) (valuation (free_variables t) z) → Solutions t y ↔ Solutions t z
  same_solutions t y z a e agree =
      let p = same_of_free t (valuation (free_variables t) y) (valuation (free_variables t) z) a agree in
      (λ h. (sym e ∙ h.0, p.0 h.1), λ h. (e ∙ h.0, p.1 h.1))

  -- a value of v may be exchanged for one of the same oddness
  exchanged_at : (b : Bool) (v : ℕ) (k l : ℤ) (f : ℕ → ℤ) (u : ℕ) → (u == v) ≡ b → is_truth v ≡ true → is_odd k ≡ is_odd l → Agree (is_truth u) (if b then k else f u) (if b then l else f u)
  exchanged_at true v k l f u test truth e = let same : v ≡ u = grind (arith, nat_tests) in subst (λ c. Agree c k l) (sym truth ∙ ap is_truth same) e
  exchanged_at false v k l f u test truth e = agree_itself (is_truth u) (f u)

  pub two_values : (v : ℕ) (a : Tree) (f : ℕ → ℤ) → is_truth v ≡ true → AsksOddness is_truth a → Holds (Exists v a) f ↔ (Holds a (updated f v (pos 0)) ⊎ Holds a (updated f v (pos 1)))
  two_values v a f truth asks =
      let moved = λ (k l : ℤ) (e : is_odd k ≡ is_odd l). carried a (updated f v k) (updated f v l) asks (λ u. exchanged_at (u == v) v k l f u refl truth e) in (
        λ h. elim (cases_Bool (is_odd h.0)) [ inl odd ↦ inr (moved h.0 (pos 1) odd h.1) | inr even ↦ inl (moved h.0 (pos 0) even h.1) ],
        λ h. elim h [ inl none ↦ (pos 0, none) | inr one ↦ (pos 1, one) ],
      )
