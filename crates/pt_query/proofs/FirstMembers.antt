-- The values of the first fresh words are the first members.
use Rattle.std.proofs.Common.{◌≡◌, ◌≢◌, ◌⊎◌, inl, inr, ℕ, zero, suc, ◌+◌, ◌-◌, ◌^◌, ◌<◌, ◌≤◌, Bool, true, false, List, [], ◌∷◌, ◌++◌, length, Option, None, Some, refl, ap, sym, ◌∙◌, subst, arith, length-append}
use Rattle.std.specs.Prelude.{IsTrue}
use Rattle.std.specs.List.{AllByRecursion}
use Rattle.std.proofs.lemmas.Bool.{cases_eq, cases_lt}
use Rattle.pt_sets.specs.Words.{Vector, value}
use Rattle.pt_base.specs.Elements.{ContainsByRecursion, PairsByRecursion}
use Rattle.pt_sets.specs.Automata.{Automaton, IsAutomaton, next_of, output_of, SetOfState}
use Rattle.pt_sets.specs.Shortlex.{IsShortlexBefore, ComesBefore, IsFirstMembers}
use Rattle.pt_sets.proofs.SameValues.{shortest-exists}
use Rattle.pt_sets.proofs.WordValues.{length-value}
use Rattle.pt_query.specs.declared.fault.WitnessFault.TheVariants.{Wide}
use Rattle.pt_query.specs.Queries.{IsNarrow, IsFirstWide, IsListCause}
use Rattle.pt_query.specs.Fresh.{IsFreshFrom, FirstAtLeast, IsLeastFrom, HasNoneFrom, AreFirstWords, IsLeastWide, HasNoWide, values_of, AreShortWords}
use Rattle.pt_query.proofs.FreshWords.{first-zero, one-step, one-least, none-left, more-step, more-least}
use Rattle.pt_query.proofs.Listed.{all-push, all-turned, pairs-push, in-push, in-last}
use Rattle.pt_query.proofs.FreshMembers.{fresh-member, member-fresh}

length-values : (t : ℕ) (ws : List (List ℕ)) → length (values_of t ws) ≡ length ws
length-values t [] = refl
length-values t (w ∷ ws) = ap suc (length-values t ws)

values-in : (t : ℕ) (w : List ℕ) (ws : List (List ℕ)) → ContainsByRecursion w ws → ContainsByRecursion (value t w) (values_of t ws)
values-in t w [] h = absurd h
values-in t w (x ∷ ws) (inl same) = inl (ap (value t) same)
values-in t w (x ∷ ws) (inr there) = inr (values-in t w ws there)

-- a choice among all letters and states by the output
shown : (b : Bool) → (IsTrue b) ⊎ (IsTrue b → ⊥)
shown true = inl refl
shown false = inr (λ h. cc)

repeats : (before : Option ℕ) (s : ℕ) → (before ≡ Some s) ⊎ (before ≢ Some s)
repeats None s = inr (λ e. cc)
repeats (Some r) s = elim (cases_eq r s) [ inl same ↦ inl (ap Some same) | inr other ↦ inr (λ e. other (let same : r ≡ s = cc in same)) ]

-- there is a least fresh word of so many letters, or there is none
module _ (a : Automaton) where
  Found : Option ℕ → ℕ → ℕ → ℕ → Type 0
  Found before q n low = ((w : List ℕ) × IsLeastFrom a before q n low w) ⊎ HasNoneFrom a before q n low

  one-letter : (before : Option ℕ) (q low fuel k : ℕ) → 2 ^ a.tracks ≤ k + fuel → low ≤ k → ((y : List ℕ) → IsFreshFrom a before q y → length y ≡ 1 → FirstAtLeast low y → FirstAtLeast k y) →
      ((w : List ℕ) × IsLeastFrom a before q 1 low w) ⊎ HasNoneFrom a before q 1 low
  one-letter before q low zero k past le all = inr (none-left a before q 1 low k (omega arith) all)
  one-letter before q low (suc fuel) k past le all =
      elim (cases_lt k (2 ^ a.tracks)) [
        | inr ge ↦ inr (none-left a before q 1 low k ge all)
        | inl is_k ↦ elim (shown (output_of a q k)) [
          | inr no_output ↦ one-letter before q low fuel (k + 1) (omega arith) (omega arith) (one-step a before q low k all (λ letter output other. no_output output))
          | inl output ↦ elim (repeats before k) [
            | inl same ↦ one-letter before q low fuel (k + 1) (omega arith) (omega arith) (one-step a before q low k all (λ letter output' other. other same))
            | inr other ↦ inl (k ∷ [], one-least a before q low k le is_k other output all)
          ]
        ]
      ]

  more-letters : (n : ℕ) → 0 < n → ((before : Option ℕ) (q : ℕ) → ((w : List ℕ) × IsLeastFrom a before q n 0 w) ⊎ HasNoneFrom a before q n 0) → (before : Option ℕ) (q low fuel k : ℕ) → 2 ^ a.tracks ≤ k + fuel → low ≤ k →
      ((y : List ℕ) → IsFreshFrom a before q y → length y ≡ n + 1 → FirstAtLeast low y → FirstAtLeast k y) → ((w : List ℕ) × IsLeastFrom a before q (n + 1) low w) ⊎ HasNoneFrom a before q (n + 1) low
  more-letters n some inner before q low zero k past le all = inr (none-left a before q (n + 1) low k (omega arith) all)
  more-letters n some inner before q low (suc fuel) k past le all =
      elim (cases_lt k (2 ^ a.tracks)) [
        | inr ge ↦ inr (none-left a before q (n + 1) low k ge all)
        | inl is_k ↦ elim (inner (Some k) (next_of a q k)) [
          | inl (w, least) ↦ inl (k ∷ w, more-least a before q n low k w some le is_k least all)
          | inr none ↦ more-letters n some inner before q low fuel (k + 1) (omega arith) (omega arith) (more-step a before q n low k some all (λ y h len. none y h len (first-zero a (Some k) (next_of a q k) y h)))
        ]
      ]

  pub least-or-none : (n : ℕ) (before : Option ℕ) (q : ℕ) → ((w : List ℕ) × IsLeastFrom a before q (n + 1) 0 w) ⊎ HasNoneFrom a before q (n + 1) 0
  least-or-none zero before q = one-letter before q 0 (2 ^ a.tracks) 0 (omega arith) (omega arith) (λ y h len first. first)
  least-or-none (suc n) before q =
      subst (λ (m : ℕ). ((w : List ℕ) × IsLeastFrom a before q m 0 w) ⊎ HasNoneFrom a before q m 0) (let e : n + 1 + 1 ≡ suc n + 1 = omega arith in e)
      (more-letters (n + 1) (omega arith) (λ before q. least-or-none n before q) before q 0 (2 ^ a.tracks) 0 (omega arith) (omega arith) (λ y h len first. first))

module _ (a : Automaton) (valid : IsAutomaton a) (q : ℕ) (inside : q < a.states) where
  abbrev t : ℕ
  t = a.tracks

  comes : (v w : List ℕ) → IsFreshFrom a None q v → IsFreshFrom a None q w → IsShortlexBefore v w → ComesBefore (value t v) (value t w)
  comes v w is_v is_w before = (v, w, (fresh-member a valid q inside v is_v).2, (fresh-member a valid q inside w is_w).2, before)

  values-members : (ws : List (List ℕ)) → AllByRecursion (IsFreshFrom a None q) ws → AllByRecursion (λ z. (length z ≡ t) × SetOfState a q z) (values_of t ws)
  values-members [] all = tt
  values-members (w ∷ ws) all = ((length-value t w, (fresh-member a valid q inside w all.0).1), values-members ws all.1)

  values-before : (v : List ℕ) (ws : List (List ℕ)) → IsFreshFrom a None q v → AllByRecursion (IsFreshFrom a None q) ws → AllByRecursion (IsShortlexBefore v) ws → AllByRecursion (ComesBefore (value t v)) (values_of t ws)
  values-before v [] is_v all before = tt
  values-before v (w ∷ ws) is_v all before = (comes v w is_v all.0 before.0, values-before v ws is_v all.1 before.1)

  values-order : (ws : List (List ℕ)) → AllByRecursion (IsFreshFrom a None q) ws → PairsByRecursion IsShortlexBefore ws → PairsByRecursion ComesBefore (values_of t ws)
  values-order [] all order = tt
  values-order (w ∷ ws) all order = (values-before w ws all.0 all.1 order.0, values-order ws all.1 order.1)

  all-come-before : (u : List ℕ) (ws : List (List ℕ)) → IsFreshFrom a None q u → AllByRecursion (IsFreshFrom a None q) ws → AllByRecursion (λ x. IsShortlexBefore x u) ws → AllByRecursion (λ z. ComesBefore z (value t u)) (values_of t ws)
  all-come-before u [] is_u all before = tt
  all-come-before u (w ∷ ws) is_u all before = (comes w u all.0 is_u before.0, all-come-before u ws is_u all.1 before.1)

  -- words that hold each fresh word, or are k and come before it
  first-of : (k : ℕ) (ws : List (List ℕ)) → length ws ≤ k → AllByRecursion (IsFreshFrom a None q) ws → PairsByRecursion IsShortlexBefore ws →
      ((u : List ℕ) → IsFreshFrom a None q u → ContainsByRecursion u ws ⊎ ((length ws ≡ k) × AllByRecursion (λ x. IsShortlexBefore x u) ws)) → IsFirstMembers t (SetOfState a q) k (values_of t ws)
  first-of k ws few fresh order others = record {
    count = omega (arith, few, length-values t ws);
    members = values-members ws fresh;
    order = values-order ws fresh order;
    others = λ y len member.
        let (u, is) = shortest-exists y in
        let fresh_u = member-fresh a valid q inside y u len member is in
        let same : value t u ≡ y = ap (λ (n : ℕ). value n u) (sym len) ∙ is.meaning in
        elim (others u fresh_u) [
          | inl there ↦ inl (subst (λ (z : Vector). ContainsByRecursion z (values_of t ws)) same (values-in t u ws there))
          | inr (count, all) ↦ inr (length-values t ws ∙ count, subst (λ (z : Vector). AllByRecursion (λ x. ComesBefore x z) (values_of t ws)) same (all-come-before u ws fresh_u fresh all))
        ];
  }

  values-narrow : (ws : List (List ℕ)) (n : ℕ) → n ≤ 128 → AllByRecursion (IsFreshFrom a None q) ws → AllByRecursion (λ x. length x ≤ n) ws → AllByRecursion IsNarrow (values_of t ws)
  values-narrow [] n le all short = tt
  values-narrow (w ∷ ws) n le all short = ((length w, (w, (fresh-member a valid q inside w all.0).2, refl), omega (arith, short.0, le)), values-narrow ws n le all.1 short.1)

  module _ (k : ℕ) (found : List (List ℕ)) (is : AreFirstWords a q k found) where
    abbrev n : ℕ
    n = is.listed.0

    short : AllByRecursion (λ x. length x ≤ 128) found
    short = all-turned (λ x. length x ≤ n) (λ x. length x ≤ 128) (λ x h. (let le = is.listed.2 in omega (arith, h, le))) found is.listed.1.short

    -- a word of more letters comes after all
    after-all : (u : List ℕ) → 128 < length u → AllByRecursion (λ x. IsShortlexBefore x u) found
    after-all u long = all-turned (λ x. length x ≤ 128) (λ x. IsShortlexBefore x u) (λ x h. inl (omega (arith, h, long))) found short

    of-listed : (u : List ℕ) → IsFreshFrom a None q u → ContainsByRecursion u found ⊎ AllByRecursion (λ x. IsShortlexBefore x u) found
    of-listed u h = elim (cases_lt (length u) n) [
      | inl less ↦ inl (is.listed.1.shorter u h less)
      | inr ge ↦ elim (cases_lt n (length u)) [
        | inl more ↦ inr (all-turned (λ x. length x ≤ n) (λ x. IsShortlexBefore x u) (λ x le. inl (omega (arith, le, more))) found is.listed.1.short)
        | inr le ↦ is.listed.1.rest u h (omega arith)
      ]
    ]

    pub words-short : AreShortWords t found
    words-short = both found is.listed.1.fresh short
      where
        both : (ws : List (List ℕ)) → AllByRecursion (IsFreshFrom a None q) ws → AllByRecursion (λ x. length x ≤ 128) ws → AreShortWords t ws
        both [] all few = tt
        both (w ∷ ws) all few = (((fresh-member a valid q inside w all.0).0, few.0), both ws all.1 few.1)

    pub narrow-values : AllByRecursion IsNarrow (values_of t found)
    narrow-values = values-narrow found n is.listed.2 is.listed.1.fresh is.listed.1.short

    -- all are found, or there are k
    pub first-values : (length found < k → HasNoWide a q) → IsFirstMembers t (SetOfState a q) k (values_of t found)
    first-values no_wide = first-of k found is.few is.listed.1.fresh is.listed.1.order (λ u h. elim (cases_lt (length found) k) [ inl less ↦ inl (whole u h less) | inr ge ↦ elim (of-listed u h) [ inl there ↦ inl there | inr all ↦ inr ((let few = is.few in omega (arith, few, ge)), all) ] ])
      where
        whole : (u : List ℕ) → IsFreshFrom a None q u → length found < k → ContainsByRecursion u found
        whole u h less = elim (cases_lt 128 (length u)) [ inl long ↦ absurd (no_wide less u h long) | inr le ↦ is.all less u h le ]

    -- the next member is wide
    pub wide-values : (m : ℕ) → length found < k → IsLeastWide a q m → IsListCause t (SetOfState a q) k (Wide m)
    wide-values m less wide =
        let i = m - 1 in
        let is_m : m ≡ i + 1 = (let long = wide.wide in omega (arith, long)) in
        elim (least-or-none a i None q) [
          | inl (w, least) ↦ with-word i is_m w least wide
          | inr none ↦ absurd (let (y, h, len) = wide.some in none y h (len ∙ is_m) (first-zero a None q y h))
        ]
      where
        first-wide : (w : List ℕ) → IsFreshFrom a None q w → 128 < length w → (ws : List (List ℕ)) → AllByRecursion IsNarrow (values_of t ws) → IsFirstWide (length w) (values_of t (ws ++ w ∷ []))
        first-wide w h long [] all = inl ((w, (fresh-member a valid q inside w h).2, refl), long)
        first-wide w h long (v ∷ ws) all = inr (all.0, first-wide w h long ws all.1)

        with-word : (i : ℕ) → m ≡ i + 1 → (w : List ℕ) → IsLeastFrom a None q (i + 1) 0 w → IsLeastWide a q m → IsListCause t (SetOfState a q) k (Wide m)
        with-word i is_m w least wide' =
            let count : length w ≡ m = least.count ∙ sym is_m in
            let long : 128 < length w = omega (arith, count, wide'.wide) in
            let ws = found ++ w ∷ [] in
            let size : length ws ≡ length found + 1 = length-append found (w ∷ []) in
            let fresh = all-push (IsFreshFrom a None q) found w is.listed.1.fresh least.fresh in
            let order = pairs-push IsShortlexBefore found w is.listed.1.order (after-all w long) in
            let others : (u : List ℕ) → IsFreshFrom a None q u → ContainsByRecursion u ws ⊎ ((length ws ≡ length found + 1) × AllByRecursion (λ x. IsShortlexBefore x u) ws) =
            λ u h. elim (cases_lt 128 (length u)) [
              | inr le ↦ inl (in-push u found w (is.all less u h le))
              | inl longer ↦
                  let at_least = wide'.least u h longer in
                  elim (cases_lt m (length u)) [
                    | inl more ↦ inr (size, all-push (λ x. IsShortlexBefore x u) found w (after-all u longer) (inl (omega (arith, count, more))))
                    | inr no_more ↦
                        let equal : length u ≡ i + 1 = omega (arith, at_least, no_more, is_m) in
                        elim (least.least u h equal (first-zero a None q u h)) [
                          | inl same ↦ inl (in-last u found w same)
                          | inr later ↦ inr (size, all-push (λ x. IsShortlexBefore x u) found w (after-all u longer) (inr (least.count ∙ sym equal, later)))
                        ]
                  ]
            ] in
            (length found + 1, omega (arith, less), (values_of t ws, first-of (length found + 1) ws (omega (arith, size)) fresh order others, subst (λ (x : ℕ). IsFirstWide x (values_of t ws)) count (first-wide w least.fresh long found narrow-values)))
