-- With finitely many values, which are decided to be equal or not, some number is the number of values.
use Rattle.std.proofs.Common.{◌≡◌, ◌⊎◌, inl, inr, ℕ, zero, suc, ◌+◌, ◌^◌, ◌<◌, ◌≤◌, List, [], ◌∷◌, length, map, refl, ap, sym, ◌∙◌, subst, arith}
use Rattle.std.specs.Prelude.{ℤ, ◌↔◌}
use Rattle.std.specs.List.{AllByRecursion}
use Rattle.std.proofs.lemmas.Bool.{cases_lt}
use Rattle.std.proofs.lemmas.List.{length-map}
use Rattle.pt_base.specs.Elements.{AnyByRecursion, ContainsByRecursion, PairsByRecursion}
use Rattle.pt_sets.specs.Words.{Vector, IsLetter, AreLetters}
use Rattle.pt_sets.specs.Sets.{SameSet}
use Rattle.pt_sets.specs.Costs.{AreDifferent, CostAbove, CostWithin, CostIs, IsEquivalence, SameResidual, SamePair, SameFamily, RestrictsBy}
use Rattle.pt_sets.proofs.Counting.{residual-equivalence, pair-equivalence, family-equivalence, costs-exclude, is-within, is-above, within-monotone}
use Rattle.pt_formula.specs.Truth.{Tree, True, False, Atom, Not, And, Or, Iff, Xor, Exists, Holds, Solutions, Widened, free_variables, valuation}
use Rattle.pt_formula.specs.Costs.{SameValue, Restricts, solutions_within, TreeCostAbove, TreeCostWithin, without_track, track_of}
use Rattle.pt_truth.proofs.Enumerating.{any_decided, any_of, the_one, all_of, all_own, all_map}
use Rattle.pt_truth.proofs.Regular.{IsFinite}
use Rattle.pt_truth.proofs.Searching.{numbers, over_numbers, numbers_below, short_lists_have_all}
use Rattle.pt_truth.proofs.Connectives.{IsRegular, pair_finite}
use Rattle.pt_truth.proofs.Families.{extensions, extensions_have, extensions_only, Includes, family_finite}
use Rattle.pt_truth.proofs.Deciding.{equal_set_regular, residuals_decided}
use Rattle.pt_truth.proofs.Trees.{tree_regular, read_back, both_decided}

-- values of lists of letters: finitely many, and equal or not
pub record IsCounted (same : List ℕ → List ℕ → Type 0) (t : ℕ) : Type 0 where
  pub finite : IsFinite same t
  pub equal : IsEquivalence same t
  pub decided : (v w : List ℕ) → AreLetters t v → AreLetters t w → same v w ⊎ (¬ same v w)

module _ (same : List ℕ → List ℕ → Type 0) (t : ℕ) (counted : IsCounted same t) where
  none_same : (w : List ℕ) (vs : List (List ℕ)) → (¬ AnyByRecursion (same w) vs) → AllByRecursion (λ v. ¬ same w v) vs
  none_same w [] h = tt
  none_same w (v ∷ vs) h = (λ k. h (inl k), none_same w vs (λ k. h (inr k)))

  -- the lists without those whose value comes again
  once : (ws : List (List ℕ)) → AllByRecursion (AreLetters t) ws →
      (vs : List (List ℕ)) × AllByRecursion (AreLetters t) vs × AreDifferent same vs × ((w : List ℕ) → AreLetters t w → AnyByRecursion (same w) ws → AnyByRecursion (same w) vs)
  once [] letters = ([], tt, tt, λ w w_letters h. h)
  once (u ∷ ws) letters =
      let (vs, vs_letters, different, all) = once ws letters.1 in
      elim (any_decided (same u) vs (all_map (AreLetters t) (λ v. same u v ⊎ (¬ same u v)) vs (λ v v_letters. counted.decided u v letters.0 v_letters) vs_letters)) [
        | inl again ↦
            let (v, is_in, met) = the_one (same u) vs again in (
              vs,
              vs_letters,
              different,
              λ w w_letters h. elim h [
                | inl here ↦ any_of (same w) v vs is_in (counted.equal.transitive w u v w_letters letters.0 (all_of (AreLetters t) v vs is_in vs_letters) here met)
                | inr there ↦ all w w_letters there
              ],
            )
        | inr new ↦ (
          u ∷ vs,
          (letters.0, vs_letters),
          (none_same u vs new, different),
          λ w w_letters h. elim h [ inl here ↦ inl here | inr there ↦ inr (all w w_letters there) ],
        )
      ]

  -- some number is the number of values
  pub exact_cost : (n : ℕ) × CostIs same t n
  exact_cost =
      let within = short_lists_have_all same t counted.finite counted.equal in
      let (vs, letters, different, all) = once within.lists within.letters in
      (length vs, record { lists = vs; count = refl; letters = letters; different = different; all = λ w w_letters. all w w_letters (within.all w w_letters) })

  -- for each bound there are more values or not
  pub cost_decided : (B : ℕ) → CostAbove same t B ⊎ CostWithin same t B
  cost_decided B =
      let (n, is) = exact_cost in
      elim (cases_lt B n) [
        | inl above ↦ inl (is-above same t n B above is)
        | inr within ↦ inr (within-monotone same t n B within (is-within same t n is))
      ]

-- residuals of a regular set, pairs of them, and families of them
pub residuals_counted : (t : ℕ) (X : Vector → Type 0) → IsRegular t X → IsCounted (SameResidual t X) t
residuals_counted t X regular = record { finite = regular.residuals; equal = residual-equivalence t X; decided = residuals_decided t X regular }

pub pairs_counted : (t : ℕ) (X Y : Vector → Type 0) → IsRegular t X → IsRegular t Y → IsCounted (SamePair t X Y) t
pairs_counted t X Y x y = record {
  finite = pair_finite (SameResidual t X) (SameResidual t Y) t x.residuals y.residuals;
  equal = pair-equivalence t X Y;
  decided = λ v w v_letters w_letters. both_decided (residuals_decided t X x v w v_letters w_letters) (residuals_decided t Y y v w v_letters w_letters);
}

all_decided : {A : Type 0} (P : A → Type 0) (xs : List A) → AllByRecursion (λ x. P x ⊎ (¬ P x)) xs → AllByRecursion P xs ⊎ (¬ AllByRecursion P xs)
all_decided P [] h = inl tt
all_decided P (x ∷ xs) (h, k) = both_decided h (all_decided P xs k)

module _ (t : ℕ) (X : Vector → Type 0) (regular : IsRegular t X) (f : ℕ → ℕ) (n : ℕ) where
  all_letters : List ℕ
  all_letters = numbers (2 ^ t)

  taken_to : List ℕ → List (List ℕ)
  taken_to w = extensions f all_letters w

  only : (w : List ℕ) → AllByRecursion (λ u. AreLetters t u × (map f u ≡ w)) (taken_to w)
  unfolding taken_to all_letters
  only w = extensions_only f (IsLetter t) (numbers (2 ^ t)) w (numbers_below (2 ^ t) (2 ^ t) (omega arith))

  found_for : (p w : List ℕ) → AreLetters t p → AnyByRecursion (SameResidual t X p) (taken_to w) ⊎ (¬ AnyByRecursion (SameResidual t X p) (taken_to w))
  found_for p w letters =
      any_decided (SameResidual t X p) (taken_to w)
      (all_map (λ u. AreLetters t u × (map f u ≡ w)) (λ u. SameResidual t X p u ⊎ (¬ SameResidual t X p u)) (taken_to w) (λ u h. residuals_decided t X regular p u letters h.0) (only w))

  includes_decided : (v w : List ℕ) → Includes (SameResidual t X) t regular.residuals f v w ⊎ (¬ Includes (SameResidual t X) t regular.residuals f v w)
  unfolding taken_to all_letters
  includes_decided v w =
      let each = all_map (λ u. AreLetters t u × (map f u ≡ v)) (λ p. AnyByRecursion (SameResidual t X p) (taken_to w) ⊎ (¬ AnyByRecursion (SameResidual t X p) (taken_to w))) (taken_to v) (λ p h. found_for p w h.0) (only v) in
      elim (all_decided (λ p. AnyByRecursion (SameResidual t X p) (taken_to w)) (taken_to v) each) [
        | inl all ↦
            inl (λ p restricts.
            let is_in = subst (λ (x : List ℕ). ContainsByRecursion p (extensions f (numbers (2 ^ t)) x)) restricts.1 (extensions_have f (numbers (2 ^ t)) p (over_numbers (2 ^ t) p restricts.0)) in
            let (q, among, met) = the_one (SameResidual t X p) (taken_to w) (all_of (λ p. AnyByRecursion (SameResidual t X p) (taken_to w)) p (taken_to v) is_in all) in
            (q, all_of (λ u. AreLetters t u × (map f u ≡ w)) q (taken_to w) among (only w), met))
        | inr some ↦
            inr (λ h. some (all_own (λ p. AnyByRecursion (SameResidual t X p) (taken_to w)) (taken_to v) (λ p is_in.
            let (q, restricts, met) = h p (all_of (λ u. AreLetters t u × (map f u ≡ v)) p (taken_to v) is_in (only v)) in
            let among = subst (λ (x : List ℕ). ContainsByRecursion q (extensions f (numbers (2 ^ t)) x)) restricts.1 (extensions_have f (numbers (2 ^ t)) q (over_numbers (2 ^ t) q restricts.0)) in
            any_of (SameResidual t X p) q (taken_to w) among met)))
      ]

  pub families_counted : IsCounted (SameFamily (RestrictsBy t f) t X) n
  families_counted = record {
    finite = family_finite (SameResidual t X) t regular.residuals f n;
    equal = family-equivalence (RestrictsBy t f) t X n;
    decided = λ v w v_letters w_letters. both_decided (includes_decided v w) (includes_decided w v);
  }

-- ---- solutions

module _ (depends : (t : Tree) (f g : ℕ → ℤ) → AllByRecursion (λ v. f v ≡ g v) (free_variables t) → Holds t f ↔ Holds t g) where
  -- solutions over more variables
  pub widened_regular : (t : Tree) (outer : List ℕ) → IsRegular (length outer) (Widened outer (free_variables t) (Solutions t))
  widened_regular t outer =
      equal_set_regular (length outer) (λ z. Holds t (valuation outer z)) (Widened outer (free_variables t) (Solutions t)) (record { agrees = same }) (tree_regular t outer)
    where
      inner : List ℕ
      inner = free_variables t

      read : (z : Vector) → Holds t (valuation inner (map (valuation outer z) inner)) ↔ Holds t (valuation outer z)
      read z =
          let g = valuation outer z in
          depends t (valuation inner (map g inner)) g (all_own (λ u. valuation inner (map g inner) u ≡ g u) inner (read_back g inner))

      same : (z : Vector) → length z ≡ length outer → Holds t (valuation outer z) ↔ Widened outer (free_variables t) (Solutions t) z
      same z count = (
        λ h. (count, (length-map inner (valuation outer z), (read z).1 h)),
        λ h. (read z).0 h.1.1,
      )

  -- and the same over other variables of one number
  pub widened_alike : (t : Tree) (outer : List ℕ) (n : ℕ) → length outer ≡ n → IsRegular n (Widened outer (free_variables t) (Solutions t))
  widened_alike t outer n count = subst (λ (k : ℕ). IsRegular k (Widened outer (free_variables t) (Solutions t))) count (widened_regular t outer)

  pub solutions_regular : (t : Tree) → IsRegular (length (free_variables t)) (Solutions t)
  solutions_regular t =
      let vs = free_variables t in
      equal_set_regular (length vs) (λ z. Holds t (valuation vs z)) (Solutions t) (record { agrees = λ z count. (λ h. (count, h), λ h. h.1) }) (tree_regular t vs)

  binary_counted : (whole a b : Tree) → IsCounted (SamePair (length (free_variables whole)) (solutions_within whole a) (solutions_within whole b)) (length (free_variables whole))
  binary_counted whole a b =
      pairs_counted (length (free_variables whole)) (solutions_within whole a) (solutions_within whole b)
      (widened_regular a (free_variables whole)) (widened_regular b (free_variables whole))

  plain_counted : (t : Tree) → IsCounted (SameResidual (length (free_variables t)) (Solutions t)) (length (free_variables t))
  plain_counted t = residuals_counted (length (free_variables t)) (Solutions t) (solutions_regular t)

  -- the values of a formula are counted
  pub tree_counted : (t : Tree) → IsCounted (SameValue t) (length (free_variables t))
  tree_counted True = plain_counted True
  tree_counted False = plain_counted False
  tree_counted (Atom kind ts c) = plain_counted (Atom kind ts c)
  tree_counted (Not a) = plain_counted (Not a)
  tree_counted (And a b) = binary_counted (And a b) a b
  tree_counted (Or a b) = binary_counted (Or a b) a b
  tree_counted (Iff a b) = binary_counted (Iff a b) a b
  tree_counted (Xor a b) = binary_counted (Xor a b) a b
  tree_counted (Exists v a) =
      families_counted (length (free_variables a)) (Solutions a) (solutions_regular a) (without_track (track_of v (free_variables a))) (length (free_variables (Exists v a)))

  -- costs over a bound and within it exclude each other
  pub tree_costs_exclude : (t : Tree) (bound : ℕ) → TreeCostAbove t bound → TreeCostWithin t bound → ⊥
  tree_costs_exclude t bound = costs-exclude (SameValue t) (length (free_variables t)) (tree_counted t).equal bound
