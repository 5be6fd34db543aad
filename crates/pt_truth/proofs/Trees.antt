-- What holds of the values of variables, as a set of vectors over any list of variables, is regular.
use Rattle.std.proofs.Common.{◌≡◌, ◌⊎◌, inl, inr, ℕ, zero, suc, ◌+◌, ◌/◌, ◌%◌, Bool, true, false, ◌<◌, List, [], ◌∷◌, length, map, refl, ap, sym, ◌∙◌, subst, arith}
use Rattle.std.specs.Prelude.{ℤ, pos, ◌+ℤ◌, ◌*ℤ◌, ◌≤ℤ◌, ◌↔◌, ◌==◌, if◌then◌else◌, ⊤}
use Rattle.std.specs.List.{AllByRecursion}
use Rattle.std.proofs.lemmas.Int.{ints}
use Rattle.std.proofs.lemmas.Bool.{cases_eq}
use Rattle.std.proofs.lemmas.Bool.Decides.{nat_tests}
use Rattle.pt_atoms.specs.declared.Kind.{Kind}
use Rattle.pt_atoms.specs.declared.Kind.TheVariants.{Eq, Le, Mod}
use Rattle.pt_atoms.specs.Sums.{Congruent}
use Rattle.pt_formula.specs.Forms.{Monomial}
use Rattle.pt_formula.specs.Values.{terms_value}
use Rattle.pt_formula.specs.Truth.{Tree, True, False, Atom, Not, And, Or, Iff, Xor, Exists, Holds, updated, valuation, free_variables}
use Rattle.pt_base.specs.Elements.{ContainsByRecursion}
use Rattle.pt_sets.specs.Words.{Vector, doubled_plus}
use Rattle.pt_truth.proofs.Integers.{mul_add}
use Rattle.pt_truth.proofs.Connectives.{IsRegular, not_regular, both_regular, constant_regular, decided_not}
use Rattle.pt_truth.proofs.Linear.{at_most_regular, equal_regular, congruent_regular}
use Rattle.pt_truth.proofs.Projected.{projected}

-- the digits of a letter as a vector over variables
bits : List ℕ → ℕ → Vector
bits [] a = []
bits (v ∷ vs) a = pos (a % 2) ∷ bits vs (a / 2)

value_step : (vs : List ℕ) (a : ℕ) (z : Vector) (u : ℕ) → length z ≡ length vs → valuation vs (doubled_plus a z) u ≡ (pos 2 *ℤ valuation vs z u +ℤ valuation vs (bits vs a) u)
unfolding bits
value_step [] a z u count = omega (arith, ints)
value_step (v ∷ vs) a [] u count = absurd (omega arith)
value_step (v ∷ vs) a (x ∷ z) u count = by_test (u == v) (value_step vs (a / 2) z u (omega arith))
  where
    by_test : (b : Bool) → valuation vs (doubled_plus (a / 2) z) u ≡ (pos 2 *ℤ valuation vs z u +ℤ valuation vs (bits vs (a / 2)) u) →
        (if b then (pos 2 *ℤ x +ℤ pos (a % 2)) else valuation vs (doubled_plus (a / 2) z) u)
        ≡ (pos 2 *ℤ (if b then x else valuation vs z u) +ℤ (if b then pos (a % 2) else valuation vs (bits vs (a / 2)) u))
    by_test true e = refl
    by_test false e = e

-- the sum of terms at a vector behind the digits of a letter
sum_step : (vs : List ℕ) (ts : List Monomial) (a : ℕ) (z : Vector) → length z ≡ length vs →
    terms_value (valuation vs (doubled_plus a z)) ts ≡ (pos 2 *ℤ terms_value (valuation vs z) ts +ℤ terms_value (valuation vs (bits vs a)) ts)
sum_step vs [] a z count = omega (arith, ints)
sum_step vs (t ∷ ts) a z count =
    let here = value_step vs a z t.0 count in
    let rest = sum_step vs ts a z count in
    added t.1 (valuation vs (doubled_plus a z) t.0) (valuation vs z t.0) (valuation vs (bits vs a) t.0)
    (terms_value (valuation vs (doubled_plus a z)) ts) (terms_value (valuation vs z) ts) (terms_value (valuation vs (bits vs a)) ts) here rest
  where
    added : (c whole x d sums sum part : ℤ) → whole ≡ (pos 2 *ℤ x +ℤ d) → sums ≡ (pos 2 *ℤ sum +ℤ part) →
        (c *ℤ whole +ℤ sums) ≡ (pos 2 *ℤ (c *ℤ x +ℤ sum) +ℤ (c *ℤ d +ℤ part))
    added c whole x d sums sum part e g =
        let twice : whole ≡ x +ℤ (x +ℤ d) = omega (arith, ints) in
        let outer = mul_add c x (x +ℤ d) in
        let inner = mul_add c x d in
        let product : c *ℤ whole ≡ c *ℤ (x +ℤ (x +ℤ d)) = ap (λ (y : ℤ). c *ℤ y) twice in
        omega (arith, ints, outer, inner, product, g)

-- equal sets are regular together
same_regular : (t : ℕ) (X Y : Vector → Type 0) → ((z : Vector) → X z ↔ Y z) → IsRegular t X → IsRegular t Y
same_regular t X Y same regular =
    both_regular t X X Y
    (λ y z moves again h. (same z).0 (moves.0 ((same y).1 h)))
    (λ z decided again. elim decided [ inl h ↦ inl ((same z).0 h) | inr none ↦ inr (λ h. none ((same z).1 h)) ])
    regular regular

congruent_zero : (a b : ℤ) → (a ≡ b) ↔ Congruent 0 a b
congruent_zero a b = (λ e. (pos 0, e ∙ omega (arith, ints)), λ (k, e). let nothing : pos 0 *ℤ k ≡ pos 0 = omega (arith, ints) in omega (arith, ints, nothing))

atom_regular : (kind : Kind) (ts : List Monomial) (c : ℤ) (vs : List ℕ) → IsRegular (length vs) (λ z. Holds (Atom kind ts c) (valuation vs z))
atom_regular Eq ts c vs = equal_regular (length vs) (λ z. terms_value (valuation vs z) ts) (λ a. terms_value (valuation vs (bits vs a)) ts) (sum_step vs ts) c
atom_regular Le ts c vs = at_most_regular (length vs) (λ z. terms_value (valuation vs z) ts) (λ a. terms_value (valuation vs (bits vs a)) ts) (sum_step vs ts) c
atom_regular (Mod zero) ts c vs =
    same_regular (length vs) (λ z. terms_value (valuation vs z) ts ≡ c) (λ z. Congruent 0 (terms_value (valuation vs z) ts) c)
    (λ z. congruent_zero (terms_value (valuation vs z) ts) c)
    (equal_regular (length vs) (λ z. terms_value (valuation vs z) ts) (λ a. terms_value (valuation vs (bits vs a)) ts) (sum_step vs ts) c)
atom_regular (Mod (suc m)) ts c vs =
    congruent_regular (length vs) (λ z. terms_value (valuation vs z) ts) (λ a. terms_value (valuation vs (bits vs a)) ts) (sum_step vs ts) (suc m) (omega arith) c

pub both_decided : {P Q : Type 0} → P ⊎ (¬ P) → Q ⊎ (¬ Q) → (P × Q) ⊎ (¬ (P × Q))
both_decided (inl p) (inl q) = inl (p, q)
both_decided (inl p) (inr n) = inr (λ h. n h.1)
both_decided (inr n) q = inr (λ h. n h.0)

one_decided : {P Q : Type 0} → P ⊎ (¬ P) → Q ⊎ (¬ Q) → (P ⊎ Q) ⊎ (¬ (P ⊎ Q))
one_decided (inl p) q = inl (inl p)
one_decided (inr n) (inl q) = inl (inr q)
one_decided (inr n) (inr m) = inr (λ h. elim h [ inl p ↦ n p | inr q ↦ m q ])

pub alike_decided : {P Q : Type 0} → P ⊎ (¬ P) → Q ⊎ (¬ Q) → (P ↔ Q) ⊎ (¬ (P ↔ Q))
alike_decided (inl p) (inl q) = inl (λ h. q, λ h. p)
alike_decided (inl p) (inr m) = inr (λ h. m (h.0 p))
alike_decided (inr n) (inl q) = inr (λ h. n (h.1 q))
alike_decided (inr n) (inr m) = inl (λ p. absurd (n p), λ q. absurd (m q))

pub tree_regular : (t : Tree) (vs : List ℕ) → IsRegular (length vs) (λ z. Holds t (valuation vs z))
tree_regular True vs = constant_regular (length vs) ⊤ (inl tt)
tree_regular False vs = constant_regular (length vs) ⊥ (inr (λ h. h))
tree_regular (Atom kind ts c) vs = atom_regular kind ts c vs
tree_regular (Not a) vs = not_regular (length vs) (λ z. Holds a (valuation vs z)) (tree_regular a vs)
tree_regular (And a b) vs =
    both_regular (length vs) (λ z. Holds a (valuation vs z)) (λ z. Holds b (valuation vs z)) (λ z. Holds (And a b) (valuation vs z))
    (λ y z k l h. (k.0 h.0, l.0 h.1))
    (λ z p q. both_decided p q)
    (tree_regular a vs) (tree_regular b vs)
tree_regular (Or a b) vs =
    both_regular (length vs) (λ z. Holds a (valuation vs z)) (λ z. Holds b (valuation vs z)) (λ z. Holds (Or a b) (valuation vs z))
    (λ y z k l h. elim h [ inl p ↦ inl (k.0 p) | inr q ↦ inr (l.0 q) ])
    (λ z p q. one_decided p q)
    (tree_regular a vs) (tree_regular b vs)
tree_regular (Iff a b) vs =
    both_regular (length vs) (λ z. Holds a (valuation vs z)) (λ z. Holds b (valuation vs z)) (λ z. Holds (Iff a b) (valuation vs z))
    (λ y z k l h. (λ p. l.0 (h.0 (k.1 p)), λ q. k.0 (h.1 (l.1 q))))
    (λ z p q. alike_decided p q)
    (tree_regular a vs) (tree_regular b vs)
tree_regular (Xor a b) vs =
    both_regular (length vs) (λ z. Holds a (valuation vs z)) (λ z. Holds b (valuation vs z)) (λ z. Holds (Xor a b) (valuation vs z))
    (λ y z k l h. elim h [ inl p ↦ inl (k.0 p.0, λ q. p.1 (l.1 q)) | inr q ↦ inr (λ p. q.0 (k.1 p), l.0 q.1) ])
    (λ z p q. one_decided (both_decided p (decided_not q)) (both_decided (decided_not p) q))
    (tree_regular a vs) (tree_regular b vs)
tree_regular (Exists v a) vs = projected (length vs) (λ z. Holds a (valuation (v ∷ vs) z)) (tree_regular a (v ∷ vs))

-- ---- values of all variables

-- values that are read from a vector made of them
pub read_back : (f : ℕ → ℤ) (vs : List ℕ) (u : ℕ) → ContainsByRecursion u vs → valuation vs (map f vs) u ≡ f u
read_back f [] u h = absurd h
read_back f (v ∷ vs) u h =
    elim (cases_eq u v) [
      | inl same ↦
          let test : (u == v) ≡ true = grind (arith, nat_tests) in
          ap (λ (b : Bool). if b then f v else valuation vs (map f vs) u) test ∙ ap f (sym same)
      | inr other ↦
          let test : (u == v) ≡ false = grind (arith, nat_tests) in
          ap (λ (b : Bool). if b then f v else valuation vs (map f vs) u) test ∙ read_back f vs u (later h other)
    ]
  where
    later : ContainsByRecursion u (v ∷ vs) → (¬ (u ≡ v)) → ContainsByRecursion u vs
    later (inl e) other = absurd (other e)
    later (inr there) other = there
