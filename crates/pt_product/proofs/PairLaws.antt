-- Pairs of states stand for pairs of residuals, one to one.
use Rattle.std.proofs.Common.{◌≡◌, ℕ, ◌<◌, List, [], ◌∷◌, ◌++◌, refl, ap, sym, ◌∙◌, subst}
use Rattle.pt_sets.specs.Words.{IsLetter, AreLetters}
use Rattle.pt_sets.specs.Languages.{Language, SameLanguage, quotient}
use Rattle.pt_sets.specs.Automata.{Automaton, IsAutomaton, next_of, output_of, language_of, run}
use Rattle.pt_sets.specs.Costs.{restricted, SameResidual}
use Rattle.pt_sets.specs.Restricting.{restricted_all, widened_language}
use Rattle.pt_sets.proofs.Acceptance.{same-language-same-set}
use Rattle.pt_sets.proofs.Running.{run-joined, language-run, state-keeps}
use Rattle.pt_sets.proofs.Restricted.{restricted-IsLetter, restricted_all-AreLetters, restricted_all-append, SameLanguage-trans, SameLanguage-sym, SameQuotient-widened, SameQuotient-restricted}
use Rattle.pt_sets.proofs.Widening.{widened-SameResidual}
use Rattle.pt_product.specs.declared.pair.Pair.{Pair}
use Rattle.pt_product.specs.Operations.{truth}
use Rattle.pt_product.specs.Pairs.{OneFactor, IsFactor, WideSet, Task, IsTask, StandsFor, IsStep, same_pair, pair_language, state_behind, wide_language}

-- letters lead from states to states
run-within : (a : Automaton) (q : ℕ) (w : List ℕ) → IsAutomaton a → q < a.states → AreLetters a.tracks w → run (next_of a) (output_of a) q w < a.states
run-within a q [] valid inside letters = inside
run-within a q (l ∷ w) valid inside letters = run-within a (next_of a q l) w valid (valid.closed q l inside letters.0) letters.1

-- One factor.
module _ (f : OneFactor) (is : IsFactor f) where
  letters-of : (w : List ℕ) → AreLetters f.table.tracks (restricted_all f.map w)
  letters-of w = restricted_all-AreLetters f.table.tracks f.tracks f.map w is.map

  pub behind-within : (w : List ℕ) → state_behind f w < f.table.states
  behind-within w = run-within f.table f.start (restricted_all f.map w) is.valid is.start (letters-of w)

  -- one more letter
  pub behind-next : (w : List ℕ) (l : ℕ) → state_behind f (w ++ l ∷ []) ≡ next_of f.table (state_behind f w) (restricted f.map l)
  behind-next w l =
      ap (run (next_of f.table) (output_of f.table) f.start) (restricted_all-append f.map w (l ∷ [])) ∙ run-joined (next_of f.table) (output_of f.table) f.start (restricted_all f.map w) (restricted f.map l ∷ [])

  -- the language of the state behind a list of letters
  behind-language : (w : List ℕ) → SameLanguage f.table.tracks (language_of f.table (state_behind f w)) (quotient (language_of f.table f.start) (restricted_all f.map w))
  behind-language w = language-run (next_of f.table) (output_of f.table) f.table.tracks f.start (restricted_all f.map w)

  -- lists of letters with equal residuals lead to one state
  pub behind-one : (v w : List ℕ) → AreLetters f.tracks v → AreLetters f.tracks w → SameResidual f.tracks (WideSet f) v w → state_behind f v ≡ state_behind f w
  behind-one v w vs ws same =
      let n = f.table.tracks in
      let L = language_of f.table f.start in
      let wide : SameLanguage f.tracks (quotient (widened_language f.map L) v) (quotient (widened_language f.map L) w) = (widened-SameResidual n f.tracks f.map L v w is.map (state-keeps f.table is.valid f.start is.start) vs ws).0 same in
      let one : SameLanguage n (language_of f.table (state_behind f v)) (language_of f.table (state_behind f w)) =
      SameLanguage-trans n _ (quotient L (restricted_all f.map v)) _ (behind-language v)
      (SameLanguage-trans n _ (quotient L (restricted_all f.map w)) _ (SameQuotient-restricted n f.tracks f.map L v w is.map wide) (SameLanguage-sym n _ _ (behind-language w))) in
      is.reduced (state_behind f v) (state_behind f w) (behind-within v) (behind-within w) (same-language-same-set n (language_of f.table (state_behind f v)) (language_of f.table (state_behind f w)) one)

  -- lists of letters that lead to one state have equal residuals
  pub behind-back : (v w : List ℕ) → AreLetters f.tracks v → AreLetters f.tracks w → state_behind f v ≡ state_behind f w → SameResidual f.tracks (WideSet f) v w
  behind-back v w vs ws same =
      let n = f.table.tracks in
      let L = language_of f.table f.start in
      let there : SameLanguage n (quotient L (restricted_all f.map v)) (language_of f.table (state_behind f w)) = subst (λ (q : ℕ). SameLanguage n (quotient L (restricted_all f.map v)) (language_of f.table q)) same (SameLanguage-sym n _ _ (behind-language v)) in
      (widened-SameResidual n f.tracks f.map L v w is.map (state-keeps f.table is.valid f.start is.start) vs ws).1
      (SameQuotient-widened n f.tracks f.map L v w is.map (SameLanguage-trans n _ (language_of f.table (state_behind f w)) _ there (behind-language w)))

  -- repeating the sign keeps the answer
  pub sign-kept : (q s : ℕ) → q < f.table.states → wide_language f q [] s ≡ wide_language f q (s ∷ []) s
  sign-kept q s inside = is.valid.sign q inside (restricted f.map s) (restricted-IsLetter f.table.tracks f.tracks f.map s is.map)

-- Both factors.
module _ (k : Task) (task : IsTask k) where
  pub stands-first : StandsFor k [] (record { a = k.a.start; b = k.b.start })
  stands-first = record { a = refl; b = refl }

  pub stands-next : (w : List ℕ) (l : ℕ) (p q : Pair) → StandsFor k w p → IsStep k p l q → StandsFor k (w ++ l ∷ []) q
  stands-next w l p q at step = record {
    a = behind-next k.a task.a w l ∙ ap (λ (x : ℕ). next_of k.a.table x (restricted k.a.map l)) at.a ∙ step.a;
    b = behind-next k.b task.b w l ∙ ap (λ (x : ℕ). next_of k.b.table x (restricted k.b.map l)) at.b ∙ step.b;
  }

  -- a pair has states of both factors
  pub stands-in-a : (w : List ℕ) (p : Pair) → StandsFor k w p → p.a < k.a.table.states
  stands-in-a w p at = subst (λ (q : ℕ). q < k.a.table.states) at.a (behind-within k.a task.a w)

  pub stands-in-b : (w : List ℕ) (p : Pair) → StandsFor k w p → p.b < k.b.table.states
  stands-in-b w p at = subst (λ (q : ℕ). q < k.b.table.states) at.b (behind-within k.b task.b w)

  letters-b : (w : List ℕ) → AreLetters k.a.tracks w → AreLetters k.b.tracks w
  letters-b w ws = subst (λ (n : ℕ). AreLetters n w) (sym task.same) ws

  -- pairs of equal residuals are equal
  pub stands-one : (v w : List ℕ) (p q : Pair) → AreLetters k.a.tracks v → AreLetters k.a.tracks w → StandsFor k v p → StandsFor k w q → same_pair k v w → p ≡ q
  stands-one v w p q vs ws at_p at_q same =
      let same_b = subst (λ (n : ℕ). SameResidual n (WideSet k.b) v w) (sym task.same) same.1 in
      let one_a = sym at_p.a ∙ behind-one k.a task.a v w vs ws same.0 ∙ at_q.a in
      let one_b = sym at_p.b ∙ behind-one k.b task.b v w (letters-b v vs) (letters-b w ws) same_b ∙ at_q.b in
      let with_a : ℕ → Pair = λ x. record { a = x; b = p.b } in
      let with_b : ℕ → Pair = λ x. record { a = q.a; b = x } in
      ap with_a one_a ∙ ap with_b one_b

  -- a pair has one pair of residuals
  pub stands-back : (v w : List ℕ) (p : Pair) → AreLetters k.a.tracks v → AreLetters k.a.tracks w → StandsFor k v p → StandsFor k w p → same_pair k v w
  stands-back v w p vs ws at_v at_w = (
    behind-back k.a task.a v w vs ws (at_v.a ∙ sym at_w.a),
    subst (λ (n : ℕ). SameResidual n (WideSet k.b) v w) task.same (behind-back k.b task.b v w (letters-b v vs) (letters-b w ws) (at_v.b ∙ sym at_w.b)),
  )

  both : (p q : Pair) (v w : List ℕ) (s : ℕ) → wide_language k.a q.a w s ≡ wide_language k.a p.a v s → wide_language k.b q.b w s ≡ wide_language k.b p.b v s → pair_language k q w s ≡ pair_language k p v s
  both p q v w s same_a same_b = ap (λ x. truth k.op x (wide_language k.b q.b w s)) same_a ∙ ap (truth k.op (wide_language k.a p.a v s)) same_b

  -- the language of a pair after a step
  pub pair-next : (l : ℕ) (p q : Pair) → IsStep k p l q → (w : List ℕ) (s : ℕ) → pair_language k q w s ≡ pair_language k p (l ∷ w) s
  pair-next l p q step w s = both p q (l ∷ w) w s (ap (λ (x : ℕ). wide_language k.a x w s) (sym step.a)) (ap (λ (x : ℕ). wide_language k.b x w s) (sym step.b))

  -- repeating the sign keeps the answer of a pair
  pub pair-sign : (u : List ℕ) (p : Pair) (s : ℕ) → StandsFor k u p → pair_language k p [] s ≡ pair_language k p (s ∷ []) s
  pair-sign u p s at = both p p (s ∷ []) [] s (sign-kept k.a task.a p.a s (stands-in-a u p at)) (sign-kept k.b task.b p.b s (stands-in-b u p at))
