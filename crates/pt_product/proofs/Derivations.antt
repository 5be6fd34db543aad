-- The sets of the automata that are made of an expanded handle.
use Rattle.std.proofs.Common.{◌≡◌, ℕ, List, length, ap, sym, ◌∙◌, subst, Result, Ok, Err}
use Rattle.std.proofs.lemmas.List.{length-map}
use Rattle.std.specs.Prelude.{IfOk, IfErr}
use Rattle.pt_sets.specs.Words.{Vector}
use Rattle.pt_sets.specs.Sets.{SameSet}
use Rattle.pt_sets.specs.Languages.{SetOf}
use Rattle.pt_sets.specs.Restricting.{IsTrackMap, selected, widened, widened_language}
use Rattle.pt_sets.specs.Automata.{Automaton, IsAutomaton, language_of, SetOfState}
use Rattle.pt_sets.proofs.Acceptance.{same-language-same-set}
use Rattle.pt_sets.proofs.Counting.{SameSet-trans}
use Rattle.pt_sets.proofs.Running.{state-keeps}
use Rattle.pt_sets.proofs.Widening.{widened-SetOf}
use Rattle.pt_handles.specs.Expansion.{Expands}
use Rattle.pt_product.specs.Derived.{outside, turned, IsWide}
use Rattle.pt_product.proofs.Turned.{turned-set, outside-same}
use Rattle.pt_product.proofs.Wide.{wide-same}

-- what holds of a value or a refusal goes over
pub ok-moved : {V E : Type 0} (r : Result V E) (P Q : V → Type 0) → ((v : V) → P v → Q v) → IfOk r P → IfOk r Q
ok-moved (Ok v) P Q f h = f v h
ok-moved (Err e) P Q f h = tt

pub err-moved : {V E : Type 0} (r : Result V E) (P Q : E → Type 0) → ((e : E) → P e → Q e) → IfErr r P → IfErr r Q
err-moved (Ok v) P Q f h = tt
err-moved (Err e) P Q f h = f e h

-- the start of the turned automaton has the complement
pub turned-start : (t : ℕ) (X : Vector → Type 0) (a r : Automaton) (start : ℕ) → IsAutomaton a → Expands t X a start → r ≡ turned a → SameSet t (SetOfState r start) (outside X)
turned-start t X a r start is whole value =
    let set : SameSet t (SetOfState (turned a) start) (outside (SetOfState a start)) = subst (λ (n : ℕ). SameSet n (SetOfState (turned a) start) (outside (SetOfState a start))) whole.tracks (turned-set a is start whole.in_range) in
    subst (λ (b : Automaton). SameSet t (SetOfState b start) (outside X)) (sym value)
    (SameSet-trans t (SetOfState (turned a) start) (outside (SetOfState a start)) (outside X) set (outside-same t (SetOfState a start) X whole.set))

-- widened sets of equal sets
pub widened-same-set : (k t : ℕ) (m : List ℕ) (X Y : Vector → Type 0) → length m ≡ k → SameSet k X Y → SameSet t (widened m X) (widened m Y)
widened-same-set k t m X Y count same = record { agrees = λ z h. same.agrees (selected m z) (length-map m _ ∙ count) }

-- the start of the automaton over more tracks has the widened set
pub wide-start-set : (k t : ℕ) (m : List ℕ) (X : Vector → Type 0) (a r : Automaton) (start : ℕ) → IsAutomaton a → Expands k X a start → IsTrackMap k t m → IsWide a m t r → SameSet t (SetOfState r start) (widened m X)
wide-start-set k t m X a r start is whole fits made =
    let rows : ℕ → ℕ → Automaton = λ x y. record { tracks = x; states = y; outputs = r.outputs; edges = r.edges } in
    let value : r ≡ rows t a.states = ap (λ (x : ℕ). rows x r.states) made.tracks ∙ ap (rows t) made.states in
    let over : IsTrackMap a.tracks t m = subst (λ (n : ℕ). IsTrackMap n t m) (sym whole.tracks) fits in
    let L = language_of a start in
    let language = wide-same a m t is over r.outputs r.edges made.cells start whole.in_range in
    let first = same-language-same-set t (language_of (rows t a.states) start) (widened_language m L) language in
    let second = widened-SetOf a.tracks t m L over (state-keeps a is start whole.in_range) in
    let third = widened-same-set k t m (SetOfState a start) X fits.count whole.set in
    subst (λ (b : Automaton). SameSet t (SetOfState b start) (widened m X)) (sym value)
    (SameSet-trans t (SetOf t (language_of (rows t a.states) start)) (SetOf t (widened_language m L)) (widened m X) first
    (SameSet-trans t (SetOf t (widened_language m L)) (widened m (SetOfState a start)) (widened m X) second third))
