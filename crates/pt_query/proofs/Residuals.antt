-- The states of a reduced automaton that has the residuals of a set are as many as the residuals.
use Rattle.std.proofs.Common.{◌≡◌, ◌≢◌, inl, inr, ℕ, zero, suc, ◌<◌, List, [], ◌∷◌, length, refl, ap, sym, ◌∙◌, subst, arith}
use Rattle.std.specs.List.{AllByRecursion}
use Rattle.std.proofs.lemmas.Bool.{cases_eq}
use Rattle.pt_base.specs.Elements.{PairsByRecursion}
use Rattle.pt_sets.specs.Words.{AreLetters}
use Rattle.pt_sets.specs.Sets.{VectorSet, SameSet, residual_by}
use Rattle.pt_sets.specs.Automata.{Automaton, IsAutomaton, SetOfState, next_of, output_of, run}
use Rattle.pt_sets.specs.Costs.{SameResidual, CostIs}
use Rattle.pt_sets.specs.Numbering.{IsReached}
use Rattle.pt_base.proofs.Members.{In}
use Rattle.pt_sets.proofs.Counting.{SameSet-sym, SameSet-trans}
use Rattle.pt_sets.proofs.Running.{state-residual}
use Rattle.pt_sets.proofs.Valued.{has-cost}
use Rattle.pt_sets.proofs.Digits.{length-after_digits}
use Rattle.pt_handles.specs.Expansion.{Expands}

-- the numbers below n, the greatest first
abbrev pub below : ℕ → List ℕ
below zero = []
below (suc n) = n ∷ below n

length-below : (n : ℕ) → length (below n) ≡ n
length-below zero = refl
length-below (suc n) = ap suc (length-below n)

below-all : (P : ℕ → Type 0) (n : ℕ) → ((q : ℕ) → q < n → P q) → AllByRecursion P (below n)
below-all P zero all = tt
below-all P (suc n) all = (all n (omega arith), below-all P n (λ q h. all q (omega arith)))

below-distinct : (n : ℕ) → PairsByRecursion ◌≢◌ (below n)
below-distinct zero = tt
below-distinct (suc n) = (below-all (λ q. n ≢ q) n (λ q h e. omega arith), below-distinct n)

in-below : (q n : ℕ) → q < n → In q (below n)
in-below q zero h = absurd (omega arith)
in-below q (suc n) h = elim (cases_eq q n) [ inl same ↦ inl same | inr other ↦ inr (in-below q n (omega (arith, other))) ]

-- after a run the state is one of the automaton
pub run-within : (a : Automaton) → IsAutomaton a → (q : ℕ) (w : List ℕ) → q < a.states → AreLetters a.tracks w → run (next_of a) (output_of a) q w < a.states
run-within a valid q [] inside letters = inside
run-within a valid q (l ∷ w) inside letters = run-within a valid (next_of a q l) w (valid.closed q l inside letters.0) letters.1

-- equal sets have equal residuals
pub residual-same : (t : ℕ) (X Y : VectorSet) (w : List ℕ) → SameSet t X Y → SameSet t (residual_by X w) (residual_by Y w)
residual-same t X Y w same = record { agrees = λ z len. same.agrees _ (length-after_digits w z ∙ len) }

module _ (t : ℕ) (X : VectorSet) (a : Automaton) (start : ℕ) (valid : IsAutomaton a) (e : Expands t X a start) where
  -- state q has the residual by w
  abbrev Stands : List ℕ → ℕ → Type 0
  Stands w q = (q < a.states) × SameSet t (SetOfState a q) (residual_by X w)

  reached : (q : ℕ) → q < a.states → IsReached t Stands q
  reached q inside = let (w, letters, same) = e.reached q inside in (w, letters, (inside, same))

  -- the state after letters has the residual by them
  pub run-set : (w : List ℕ) → AreLetters t w → SameSet t (SetOfState a (run (next_of a) (output_of a) start w)) (residual_by X w)
  run-set w letters =
      let ls = subst (λ (n : ℕ). AreLetters n w) (sym e.tracks) letters in
      let q = run (next_of a) (output_of a) start w in
      let has = subst (λ (n : ℕ). SameSet n (SetOfState a q) (residual_by (SetOfState a start) w)) e.tracks (state-residual a valid start w e.in_range ls) in
      SameSet-trans t (SetOfState a q) (residual_by (SetOfState a start) w) (residual_by X w) has (residual-same t (SetOfState a start) X w e.set)

  -- states after letters are one where the residuals are
  pub run-one : (v w : List ℕ) → AreLetters t v → AreLetters t w → SameResidual t X v w → run (next_of a) (output_of a) start v ≡ run (next_of a) (output_of a) start w
  run-one v w in_v in_w same =
      let at : List ℕ → ℕ = λ u. run (next_of a) (output_of a) start u in
      let inside : (u : List ℕ) → AreLetters t u → at u < a.states = λ u letters. run-within a valid start u e.in_range (subst (λ (n : ℕ). AreLetters n u) (sym e.tracks) letters) in
      e.reduced (at v) (at w) (inside v in_v) (inside w in_w)
      (subst (λ (n : ℕ). SameSet n (SetOfState a (at v)) (SetOfState a (at w))) (sym e.tracks)
      (SameSet-trans t (SetOfState a (at v)) (residual_by X v) (SetOfState a (at w)) (run-set v in_v)
      (SameSet-trans t (residual_by X v) (residual_by X w) (SetOfState a (at w)) same (SameSet-sym t (SetOfState a (at w)) (residual_by X w) (run-set w in_w)))))

  pub residual-state : (w : List ℕ) → AreLetters t w → (q : ℕ) × (q < a.states) × SameSet t (SetOfState a q) (residual_by X w)
  residual-state w letters =
      let ls = subst (λ (n : ℕ). AreLetters n w) (sym e.tracks) letters in
      let q = run (next_of a) (output_of a) start w in
      let has = subst (λ (n : ℕ). SameSet n (SetOfState a q) (residual_by (SetOfState a start) w)) e.tracks (state-residual a valid start w e.in_range ls) in
      (q, run-within a valid start w e.in_range ls, SameSet-trans t (SetOfState a q) (residual_by (SetOfState a start) w) (residual_by X w) has (residual-same t (SetOfState a start) X w e.set))

  one : (x y : List ℕ) (v u : ℕ) → AreLetters t x → AreLetters t y → Stands x v → Stands y u → SameResidual t X x y → v ≡ u
  one x y v u xs ys at_v at_u same =
      e.reduced v u at_v.0 at_u.0
      (subst (λ (n : ℕ). SameSet n (SetOfState a v) (SetOfState a u)) (sym e.tracks)
      (SameSet-trans t (SetOfState a v) (residual_by X x) (SetOfState a u) at_v.1 (SameSet-trans t (residual_by X x) (residual_by X y) (SetOfState a u) same (SameSet-sym t (SetOfState a u) (residual_by X y) at_u.1))))

  back : (x y : List ℕ) (v : ℕ) → AreLetters t x → AreLetters t y → Stands x v → Stands y v → SameResidual t X x y
  back x y v xs ys at_x at_y = SameSet-trans t (residual_by X x) (SetOfState a v) (residual_by X y) (SameSet-sym t (SetOfState a v) (residual_by X x) at_x.1) at_y.1

  pub states-cost : CostIs (SameResidual t X) t a.states
  states-cost =
      let all : (w : List ℕ) → AreLetters t w → (v : ℕ) × In v (below a.states) × Stands w v =
      λ w letters. (let (q, inside, same) = residual-state w letters in (q, in-below q a.states inside, (inside, same))) in
      subst (CostIs (SameResidual t X) t) (length-below a.states)
      (has-cost t Stands (SameResidual t X) one back (below a.states) (below-all (IsReached t Stands) a.states reached) (below-distinct a.states) all)
