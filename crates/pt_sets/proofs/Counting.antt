-- More than B values and at most B values exclude each other (pigeonhole).
use Rattle.std.proofs.Common.{◌≡◌, ◌↔◌, inl, inr, ℕ, zero, suc, ◌+◌, ◌<◌, ◌≤◌, List, [], ◌∷◌, length, take, refl, ap, arith}
use Rattle.std.specs.List.{AllByRecursion}
use Rattle.std.proofs.lemmas.Bool.{cases_lt}
use Rattle.pt_base.specs.Elements.{AnyByRecursion, PairsByRecursion}
use Rattle.pt_sets.specs.Words.{Vector, AreLetters}
use Rattle.pt_sets.specs.Sets.{SameSet, residual_by}
use Rattle.pt_sets.specs.Costs.{AreDifferent, CostAbove, CostWithin, CostIs, IsEquivalence, SameResidual, SamePair, SameFamily, IncludesFamily}

module _ (same : List ℕ → List ℕ → Type 0) (t : ℕ) (equal : IsEquivalence same t) where
  -- the lists without the one that has the value of w: each list of another value still finds its own
  removed : (w : List ℕ) (vs : List (List ℕ)) → AreLetters t w → AllByRecursion (AreLetters t) vs → AnyByRecursion (same w) vs →
      (rest : List (List ℕ)) × (length vs ≡ suc (length rest)) × AllByRecursion (AreLetters t) rest
      × ((u : List ℕ) → AreLetters t u → (¬ same w u) → AnyByRecursion (same u) vs → AnyByRecursion (same u) rest)
  removed w [] letter letters found = absurd found
  removed w (v ∷ vs) letter letters (inl here) = (vs, refl, letters.1, others)
    where
      others : (u : List ℕ) → AreLetters t u → (¬ same w u) → AnyByRecursion (same u) (v ∷ vs) → AnyByRecursion (same u) vs
      others u hu apart (inl k) = absurd (apart (equal.transitive w v u letter letters.0 hu here (equal.symmetric u v hu letters.0 k)))
      others u hu apart (inr k) = k
  removed w (v ∷ vs) letter letters (inr there) = more (removed w vs letter letters.1 there)
    where
      others : (rest : List (List ℕ)) → ((u : List ℕ) → AreLetters t u → (¬ same w u) → AnyByRecursion (same u) vs → AnyByRecursion (same u) rest) →
          (u : List ℕ) → AreLetters t u → (¬ same w u) → AnyByRecursion (same u) (v ∷ vs) → AnyByRecursion (same u) (v ∷ rest)
      others rest find u hu apart (inl k) = inl k
      others rest find u hu apart (inr k) = inr (find u hu apart k)

      more : ((rest : List (List ℕ)) × (length vs ≡ suc (length rest)) × AllByRecursion (AreLetters t) rest
          × ((u : List ℕ) → AreLetters t u → (¬ same w u) → AnyByRecursion (same u) vs → AnyByRecursion (same u) rest)) →
          (rest : List (List ℕ)) × (length (v ∷ vs) ≡ suc (length rest)) × AllByRecursion (AreLetters t) rest
          × ((u : List ℕ) → AreLetters t u → (¬ same w u) → AnyByRecursion (same u) (v ∷ vs) → AnyByRecursion (same u) rest)
      more (rest, len, ls, find) = (v ∷ rest, ap suc len, (letters.0, ls), others rest find)

  found-all : (w : List ℕ) (ws vs rest : List (List ℕ)) → AllByRecursion (AreLetters t) ws → AllByRecursion (λ u. ¬ same w u) ws → AllByRecursion (λ u. AnyByRecursion (same u) vs) ws →
      ((u : List ℕ) → AreLetters t u → (¬ same w u) → AnyByRecursion (same u) vs → AnyByRecursion (same u) rest) → AllByRecursion (λ u. AnyByRecursion (same u) rest) ws
  found-all w [] vs rest letters apart found find = tt
  found-all w (u ∷ ws) vs rest letters apart found find = (find u letters.0 apart.0 found.0, found-all w ws vs rest letters.1 apart.1 found.1 find)

  -- lists of pairwise different values are no more than lists that have all of them
  different-le : (ws vs : List (List ℕ)) → AllByRecursion (AreLetters t) ws → AllByRecursion (AreLetters t) vs → AreDifferent same ws →
      AllByRecursion (λ w. AnyByRecursion (same w) vs) ws → length ws ≤ length vs
  different-le [] vs ws_letters vs_letters different found = omega arith
  different-le (w ∷ ws) vs ws_letters vs_letters different found =
      let (rest, len, letters, find) = removed w vs ws_letters.0 vs_letters found.0 in
      let le = different-le ws rest ws_letters.1 letters different.1 (found-all w ws vs rest ws_letters.1 different.0 found.1 find) in
      omega arith

  all-found : (vs ws : List (List ℕ)) → AllByRecursion (AreLetters t) ws → ((w : List ℕ) → AreLetters t w → AnyByRecursion (same w) vs) → AllByRecursion (λ w. AnyByRecursion (same w) vs) ws
  all-found vs [] letters all = tt
  all-found vs (w ∷ ws) letters all = (all w letters.0, all-found vs ws letters.1 all)

  pub costs-exclude : (B : ℕ) → CostAbove same t B → CostWithin same t B → ⊥
  costs-exclude B above within =
      let le = different-le above.lists within.lists above.letters within.letters above.different (all-found within.lists above.lists above.letters within.all) in
      omega (arith, above.count, within.count)

module _ (same : List ℕ → List ℕ → Type 0) (t : ℕ) where
  all-take : {X : Type 0} (P : X → Type 0) (n : ℕ) (xs : List X) → AllByRecursion P xs → AllByRecursion P (take n xs)
  all-take P zero xs all = tt
  all-take P (suc n) [] all = tt
  all-take P (suc n) (x ∷ xs) all = (all.0, all-take P n xs all.1)

  pairs-take : {X : Type 0} (R : X → X → Type 0) (n : ℕ) (xs : List X) → PairsByRecursion R xs → PairsByRecursion R (take n xs)
  pairs-take R zero xs pairs = tt
  pairs-take R (suc n) [] pairs = tt
  pairs-take R (suc n) (x ∷ xs) pairs = (all-take (R x) n xs pairs.0, pairs-take R n xs pairs.1)

  length-front : {X : Type 0} (n : ℕ) (xs : List X) → n ≤ length xs → length (take n xs) ≡ n
  length-front zero xs h = refl
  length-front (suc n) [] h = absurd (omega arith)
  length-front (suc n) (x ∷ xs) h = ap suc (length-front n xs (omega arith))

  -- a cost over a bound is over each smaller one
  pub above-antitone : (B C : ℕ) → C ≤ B → CostAbove same t B → CostAbove same t C
  above-antitone B C h above = record {
    lists = take (C + 1) above.lists;
    count = length-front (C + 1) above.lists (omega (arith, above.count));
    letters = all-take (AreLetters t) (C + 1) above.lists above.letters;
    different = pairs-take (λ v w. ¬ same v w) (C + 1) above.lists above.different;
  }

  -- a cost within a bound is within each greater one
  pub within-monotone : (B C : ℕ) → B ≤ C → CostWithin same t B → CostWithin same t C
  within-monotone B C h within = record { lists = within.lists; count = omega (arith, within.count); letters = within.letters; all = within.all }

-- ---- the cost as a number

module _ (same : List ℕ → List ℕ → Type 0) (t : ℕ) where
  pub is-within : (B : ℕ) → CostIs same t B → CostWithin same t B
  is-within B is = record { lists = is.lists; count = omega (arith, is.count); letters = is.letters; all = is.all }

  pub is-above : (B C : ℕ) → C < B → CostIs same t B → CostAbove same t C
  is-above B C h is = record {
    lists = take (C + 1) is.lists;
    count = length-front same t (C + 1) is.lists (omega (arith, is.count));
    letters = all-take same t (AreLetters t) (C + 1) is.lists is.letters;
    different = pairs-take same t (λ v w. ¬ same v w) (C + 1) is.lists is.different;
  }

  pub is-unique : IsEquivalence same t → (B C : ℕ) → CostIs same t B → CostIs same t C → B ≡ C
  is-unique equal B C is_B is_C =
      elim (cases_lt B C) [
        | inl below ↦ absurd (costs-exclude same t equal B (is-above C B below is_C) (is-within B is_B))
        | inr le ↦ elim (cases_lt C B) [
          | inl above ↦ absurd (costs-exclude same t equal C (is-above B C above is_B) (is-within C is_C))
          | inr ge ↦ omega arith
        ]
      ]

-- ---- the three kinds are equivalences

pub SameSet-refl : (t : ℕ) (X : Vector → Type 0) → SameSet t X X
SameSet-refl t X = record { agrees = λ z len. (λ h. h, λ h. h) }

pub SameSet-sym : (t : ℕ) (X Y : Vector → Type 0) → SameSet t X Y → SameSet t Y X
SameSet-sym t X Y same = record { agrees = λ z len. ((same.agrees z len).1, (same.agrees z len).0) }

pub SameSet-trans : (t : ℕ) (X Y Z : Vector → Type 0) → SameSet t X Y → SameSet t Y Z → SameSet t X Z
SameSet-trans t X Y Z first second = record {
  agrees = λ z len. (λ h. (second.agrees z len).0 ((first.agrees z len).0 h), λ h. (first.agrees z len).1 ((second.agrees z len).1 h));
}

pub residual-equivalence : (t : ℕ) (X : Vector → Type 0) → IsEquivalence (SameResidual t X) t
residual-equivalence t X = record {
  reflexive = λ u hu. SameSet-refl t (residual_by X u);
  symmetric = λ u v hu hv same. SameSet-sym t (residual_by X u) (residual_by X v) same;
  transitive = λ u v w hu hv hw first second. SameSet-trans t (residual_by X u) (residual_by X v) (residual_by X w) first second;
}

pub pair-equivalence : (t : ℕ) (X Y : Vector → Type 0) → IsEquivalence (SamePair t X Y) t
pair-equivalence t X Y =
    let x = residual-equivalence t X in
    let y = residual-equivalence t Y in
    record {
      reflexive = λ u hu. (x.reflexive u hu, y.reflexive u hu);
      symmetric = λ u v hu hv same. (x.symmetric u v hu hv same.0, y.symmetric u v hu hv same.1);
      transitive = λ u v w hu hv hw first second. (x.transitive u v w hu hv hw first.0 second.0, y.transitive u v w hu hv hw first.1 second.1);
    }

module _ (restricts : List ℕ → List ℕ → Type 0) (t : ℕ) (X : Vector → Type 0) where
  includes-trans : (u v w : List ℕ) → IncludesFamily restricts t X u v → IncludesFamily restricts t X v w → IncludesFamily restricts t X u w
  includes-trans u v w first second p hp =
      let (q, hq, same_pq) = first p hp in
      let (r, hr, same_qr) = second q hq in
      (r, hr, SameSet-trans t (residual_by X p) (residual_by X q) (residual_by X r) same_pq same_qr)

  pub family-equivalence : (n : ℕ) → IsEquivalence (SameFamily restricts t X) n
  family-equivalence n = record {
    reflexive = λ u hu. (λ p hp. (p, hp, SameSet-refl t (residual_by X p)), λ p hp. (p, hp, SameSet-refl t (residual_by X p)));
    symmetric = λ u v hu hv same. (same.1, same.0);
    transitive = λ u v w hu hv hw first second. (includes-trans u v w first.0 second.0, includes-trans w v u second.1 first.1);
  }

-- ---- relations that agree have one cost

module _ (one two : List ℕ → List ℕ → Type 0) (t : ℕ) where
  different-moved : ((v w : List ℕ) → AreLetters t v → AreLetters t w → two v w → one v w) → (ws : List (List ℕ)) → AllByRecursion (AreLetters t) ws → AreDifferent one ws → AreDifferent two ws
  different-moved back [] letters different = tt
  different-moved back (v ∷ ws) letters different = (apart v ws letters.0 letters.1 different.0, different-moved back ws letters.1 different.1)
    where
      apart : (v : List ℕ) (ws : List (List ℕ)) → AreLetters t v → AllByRecursion (AreLetters t) ws → AllByRecursion (λ w. ¬ one v w) ws → AllByRecursion (λ w. ¬ two v w) ws
      apart v [] letter letters all = tt
      apart v (w ∷ ws) letter letters all = ((λ h. all.0 (back v w letter letters.0 h)), apart v ws letter letters.1 all.1)

  any-moved : ((v w : List ℕ) → AreLetters t v → AreLetters t w → one v w → two v w) → (v : List ℕ) (ws : List (List ℕ)) → AreLetters t v → AllByRecursion (AreLetters t) ws → AnyByRecursion (one v) ws → AnyByRecursion (two v) ws
  any-moved into v [] letter letters any = absurd any
  any-moved into v (w ∷ ws) letter letters (inl here) = inl (into v w letter letters.0 here)
  any-moved into v (w ∷ ws) letter letters (inr there) = inr (any-moved into v ws letter letters.1 there)

  pub above-moved : ((v w : List ℕ) → AreLetters t v → AreLetters t w → two v w → one v w) → (B : ℕ) → CostAbove one t B → CostAbove two t B
  above-moved back B above = record { lists = above.lists; count = above.count; letters = above.letters; different = different-moved back above.lists above.letters above.different }

  pub is-moved : ((v w : List ℕ) → AreLetters t v → AreLetters t w → one v w ↔ two v w) → (B : ℕ) → CostIs one t B → CostIs two t B
  is-moved agree B is = record {
    lists = is.lists;
    count = is.count;
    letters = is.letters;
    different = different-moved (λ v w vs ws. (agree v w vs ws).1) is.lists is.letters is.different;
    all = λ w ws. any-moved (λ v u vs us. (agree v u vs us).0) w is.lists ws is.letters (is.all w ws);
  }
