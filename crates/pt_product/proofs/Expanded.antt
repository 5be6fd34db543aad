-- The states of an expanded handle are its residuals, each once.
use Rattle.std.proofs.Common.{◌≡◌, ℕ, zero, suc, ◌<◌, ◌≤◌, inl, inr, List, [], ◌∷◌, length, refl, ap, sym, ◌∙◌, subst, arith}
use Rattle.std.specs.List.{AllByRecursion}
use Rattle.std.proofs.lemmas.Bool.{cases_lt}
use Rattle.pt_base.specs.Elements.{AnyByRecursion}
use Rattle.pt_sets.specs.Words.{Vector, AreLetters, after_digits}
use Rattle.pt_sets.specs.Sets.{SameSet, residual_by}
use Rattle.pt_sets.specs.Automata.{Automaton, IsAutomaton, next_of, output_of, run, SetOfState}
use Rattle.pt_sets.specs.Costs.{AreDifferent, CostIs, CostWithin, SameResidual}
use Rattle.pt_sets.proofs.Digits.{length-after_digits}
use Rattle.pt_sets.proofs.Counting.{SameSet-sym, SameSet-trans, is-above, costs-exclude, residual-equivalence}
use Rattle.pt_sets.proofs.Running.{state-residual}
use Rattle.pt_handles.specs.Expansion.{Expands}

-- lists of letters with the residuals of the first k states
record Front (t : ℕ) (X : Vector → Type 0) (a : Automaton) (k : ℕ) : Type 0 where
  lists : List (List ℕ)
  count : length lists ≡ k
  letters : AllByRecursion (AreLetters t) lists
  different : AreDifferent (SameResidual t X) lists
  states : AllByRecursion (λ w. (q : ℕ) × (q < k) × SameSet t (SetOfState a q) (residual_by X w)) lists
  all : (q : ℕ) → q < k → (v : List ℕ) → SameSet t (SetOfState a q) (residual_by X v) → AnyByRecursion (SameResidual t X v) lists

module _ (t : ℕ) (X : Vector → Type 0) (a : Automaton) (start : ℕ) (is : IsAutomaton a) (whole : Expands t X a start) where
  run-within : (w : List ℕ) (q : ℕ) → q < a.states → AreLetters a.tracks w → run (next_of a) (output_of a) q w < a.states
  run-within [] q h letters = h
  run-within (l ∷ w) q h letters = run-within w (next_of a q l) (is.closed q l h letters.0) letters.1

  -- states of equal residuals are one
  one-state : (q r : ℕ) (v w : List ℕ) → q < a.states → r < a.states → SameSet t (SetOfState a q) (residual_by X v) → SameSet t (SetOfState a r) (residual_by X w) → SameResidual t X v w → q ≡ r
  one-state q r v w in_q in_r at_q at_r same =
      let sets = SameSet-trans t (SetOfState a q) (residual_by X v) (SetOfState a r) at_q
      (SameSet-trans t (residual_by X v) (residual_by X w) (SetOfState a r) same (SameSet-sym t (SetOfState a r) (residual_by X w) at_r)) in
      whole.reduced q r in_q in_r (subst (λ (n : ℕ). SameSet n (SetOfState a q) (SetOfState a r)) (sym whole.tracks) sets)

  -- a state behind others has another residual
  apart : (k : ℕ) (w : List ℕ) → k < a.states → SameSet t (SetOfState a k) (residual_by X w) → (us : List (List ℕ)) → AllByRecursion (λ u. (q : ℕ) × (q < k) × SameSet t (SetOfState a q) (residual_by X u)) us → AllByRecursion (λ u. ¬ SameResidual t X w u) us
  apart k w in_k at_k [] states = tt
  apart k w in_k at_k (u ∷ us) states =
      let (q, below, at_q) = states.0 in
      ((λ same. (let is_one = one-state k q w u in_k (omega arith) at_k at_q same in absurd (omega arith))), apart k w in_k at_k us states.1)

  later : (k : ℕ) (us : List (List ℕ)) → AllByRecursion (λ u. (q : ℕ) × (q < k) × SameSet t (SetOfState a q) (residual_by X u)) us → AllByRecursion (λ u. (q : ℕ) × (q < suc k) × SameSet t (SetOfState a q) (residual_by X u)) us
  later k [] states = tt
  later k (u ∷ us) states = let (q, below, at_q) = states.0 in ((q, omega arith, at_q), later k us states.1)

  front : (k : ℕ) → k ≤ a.states → Front t X a k
  front zero h = record { lists = []; count = refl; letters = tt; different = tt; states = tt; all = λ q below v at_q. absurd (omega arith) }
  front (suc k) h =
      let in_k : k < a.states = omega arith in
      let (w, letters, at_k) = whole.reached k in_k in
      let rest = front k (omega arith) in
      record {
        lists = w ∷ rest.lists;
        count = ap suc rest.count;
        letters = (letters, rest.letters);
        different = (apart k w in_k at_k rest.lists rest.states, rest.different);
        states = ((k, omega arith, at_k), later k rest.lists rest.states);
        all = λ q below v at_q.
            elim (cases_lt q k) [
              | inl earlier ↦ inr (rest.all q earlier v at_q)
              | inr here ↦
                  let same : q ≡ k = omega arith in
                  let there : SameSet t (SetOfState a k) (residual_by X v) = subst (λ (n : ℕ). SameSet t (SetOfState a n) (residual_by X v)) same at_q in
                  inl (SameSet-trans t (residual_by X v) (SetOfState a k) (residual_by X w) (SameSet-sym t (SetOfState a k) (residual_by X v) there) at_k)
            ];
      }

  -- as many states as residuals
  pub expands-cost : CostIs (SameResidual t X) t a.states
  expands-cost =
      let whole_front = front a.states (omega arith) in
      record {
        lists = whole_front.lists;
        count = whole_front.count;
        letters = whole_front.letters;
        different = whole_front.different;
        all = λ v letters.
            let there : AreLetters a.tracks v = subst (λ (n : ℕ). AreLetters n v) (sym whole.tracks) letters in
            let q = run (next_of a) (output_of a) start v in
            let inside : q < a.states = run-within v start whole.in_range there in
            let reached : SameSet t (SetOfState a q) (residual_by (SetOfState a start) v) = subst (λ (n : ℕ). SameSet n (SetOfState a q) (residual_by (SetOfState a start) v)) whole.tracks (state-residual a is start v whole.in_range there) in
            let moved : SameSet t (residual_by (SetOfState a start) v) (residual_by X v) = record { agrees = λ z count. whole.set.agrees (after_digits v z) (length-after_digits v z ∙ count) } in
            whole_front.all q inside v (SameSet-trans t (SetOfState a q) (residual_by (SetOfState a start) v) (residual_by X v) reached moved);
      }

  -- at most as many states as a bound on the residuals
  pub expands-within : (n : ℕ) → CostWithin (SameResidual t X) t n → a.states ≤ n
  expands-within n within =
      elim (cases_lt n a.states) [
        | inl over ↦ absurd (costs-exclude (SameResidual t X) t (residual-equivalence t X) n (is-above (SameResidual t X) t a.states n over expands-cost) within)
        | inr le ↦ le
      ]
