-- A finished search: the table of its pairs, and how many there are.
use Rattle.std.proofs.Common.{◌≡◌, ◌≢◌, ℕ, ◌*◌, ◌^◌, ◌≤◌, Bool, List, [], ◌∷◌, length, refl, sym, ◌∙◌, subst}
use Rattle.std.specs.List.{AllByRecursion}
use Rattle.pt_sets.specs.Languages.{Language, KeepsSignExtension, SameLanguage, SetOf}
use Rattle.pt_sets.specs.Sets.{VectorSet, SameSet}
use Rattle.pt_sets.specs.Automata.{Automaton, IsAutomaton, language_of, SetOfState}
use Rattle.pt_sets.specs.Costs.{CostIs, CostAbove}
use Rattle.pt_sets.specs.Numbering.{IsReached}
use Rattle.pt_sets.proofs.Numbered.{numbering-start, numbering-above, numbering-cost, state-means, is-automaton}
use Rattle.pt_sets.proofs.Acceptance.{same-language-same-set}
use Rattle.pt_sets.proofs.Counting.{SameSet-trans}
use Rattle.pt_sets.proofs.Running.{state-keeps}
use Rattle.pt_sets.proofs.Widening.{widened-SetOf, widened-keeps}
use Rattle.pt_product.specs.declared.pair.Pair.{Pair}
use Rattle.pt_product.specs.Operations.{combined, combined_language}
use Rattle.pt_product.specs.Pairs.{OneFactor, IsFactor, WideSet, wide_language, Task, IsTask, StandsFor, IsStep, ShowsPair, PairNumbering, same_pair, pair_language}
use Rattle.pt_product.proofs.CombinedSets.{combined-SetOf, combined-same}
use Rattle.pt_product.proofs.PairLaws.{stands-first, stands-next, stands-one, stands-back, pair-next, pair-sign}

-- the wide language of the start keeps sign extension, and has the wide set
factor-keeps : (f : OneFactor) (t : ℕ) → IsFactor f → f.tracks ≡ t → KeepsSignExtension t (wide_language f f.start)
factor-keeps f t is same =
    subst (λ (n : ℕ). KeepsSignExtension n (wide_language f f.start)) same (widened-keeps f.table.tracks f.tracks f.map (language_of f.table f.start) is.map (state-keeps f.table is.valid f.start is.start))

factor-set : (f : OneFactor) (t : ℕ) → IsFactor f → f.tracks ≡ t → SameSet t (SetOf t (wide_language f f.start)) (WideSet f)
factor-set f t is same =
    subst (λ (n : ℕ). SameSet n (SetOf n (wide_language f f.start)) (WideSet f)) same (widened-SetOf f.table.tracks f.tracks f.map (language_of f.table f.start) is.map (state-keeps f.table is.valid f.start is.start))

module _ (k : Task) (task : IsTask k) where
  abbrev first : Pair
  first = record { a = k.a.start; b = k.b.start }

  pub pairs-start : PairNumbering k (first ∷ []) [] [] 0
  pairs-start = numbering-start k.a.tracks first (StandsFor k) (IsStep k) (ShowsPair k) (stands-first k task)

  -- more pairs than the bound are more pairs of residuals
  pub pairs-above : (pairs : List Pair) (outputs : List Bool) (edges : List ℕ) (n B : ℕ) (q : Pair) → PairNumbering k pairs outputs edges n → IsReached k.a.tracks (StandsFor k) q → AllByRecursion (λ p. p ≢ q) pairs → length pairs ≡ B → CostAbove (same_pair k) k.a.tracks B
  pairs-above = numbering-above k.a.tracks first (StandsFor k) (IsStep k) (ShowsPair k) (same_pair k) (λ x y v u letters_x letters_y. stands-one k task x y v u letters_x letters_y)

  module _ (pairs : List Pair) (outputs : List Bool) (edges : List ℕ) (done : PairNumbering k pairs outputs edges (length pairs * 2 ^ k.a.tracks)) where
    -- a state has the set of its pair
    abbrev Means : Pair → List ℕ → ℕ → Bool → Type 0
    Means p w s b = b ≡ pair_language k p w s

    next-means : (p q : Pair) (l : ℕ) (w : List ℕ) (s : ℕ) (b : Bool) → IsStep k p l q → Means q w s b → Means p (l ∷ w) s b
    next-means p q l w s b step is = is ∙ pair-next k task l p q step w s

    first-set : SameLanguage k.a.tracks (language_of (record { tracks = k.a.tracks; states = length pairs; outputs = outputs; edges = edges }) 0) (combined_language k.op (wide_language k.a k.a.start) (wide_language k.b k.b.start))
    first-set = record {
      agrees = λ w s letters sign.
          state-means k.a.tracks first (StandsFor k) (IsStep k) (ShowsPair k) pairs outputs edges done Means
          (λ p z b reached letter shows. shows)
          (λ p q l v z b reached letter words sign_z step is. next-means p q l v z b step is)
          w 0 s first done.begins letters sign;
    }

    -- the first state has the combined set
    pub pairs-set : SameSet k.a.tracks (SetOfState (record { tracks = k.a.tracks; states = length pairs; outputs = outputs; edges = edges }) 0) (combined k.op (WideSet k.a) (WideSet k.b))
    pairs-set =
        let t = k.a.tracks in
        let over_a : Language = wide_language k.a k.a.start in
        let over_b : Language = wide_language k.b k.b.start in
        let table : Automaton = record { tracks = t; states = length pairs; outputs = outputs; edges = edges } in
        let whole : VectorSet = combined k.op (WideSet k.a) (WideSet k.b) in
        SameSet-trans t (SetOfState table 0) (SetOf t (combined_language k.op over_a over_b)) whole
        (same-language-same-set t (language_of table 0) (combined_language k.op over_a over_b) first-set)
        (SameSet-trans t (SetOf t (combined_language k.op over_a over_b)) (combined k.op (SetOf t over_a) (SetOf t over_b)) whole
        (combined-SetOf t k.op over_a over_b (factor-keeps k.a t task.a refl) (factor-keeps k.b t task.b task.same))
        (combined-same t k.op (SetOf t over_a) (SetOf t over_b) (WideSet k.a) (WideSet k.b) (factor-set k.a t task.a refl) (factor-set k.b t task.b task.same)))

    pub pairs-automaton : length pairs ≤ 65536 → IsAutomaton (record { tracks = k.a.tracks; states = length pairs; outputs = outputs; edges = edges })
    pairs-automaton few =
        is-automaton k.a.tracks first (StandsFor k) (IsStep k) (ShowsPair k) pairs outputs edges done Means
        (λ p z b reached letter shows. shows)
        (λ p q l v z b reached letter words sign_z step is. next-means p q l v z b step is)
        task.tracks
        few
        (λ p s b c (u, words, stands) letter shows means. shows ∙ pair-sign k task u p s stands ∙ sym means)

    -- as many pairs of residuals as pairs
    pub pairs-cost : CostIs (same_pair k) k.a.tracks (length pairs)
    pairs-cost =
        numbering-cost k.a.tracks first (StandsFor k) (IsStep k) (ShowsPair k) pairs outputs edges done (same_pair k)
        (λ x y v u letters_x letters_y. stands-one k task x y v u letters_x letters_y)
        (λ x y v letters_x letters_y. stands-back k task x y v letters_x letters_y)
        (λ w l p q words letter. stands-next k task w l p q)
        (stands-first k task)
