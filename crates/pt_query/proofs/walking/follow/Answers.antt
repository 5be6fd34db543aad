use Rattle.std.proofs.Common.{◌≡◌, ℕ, ◌<◌, List, ◌++◌, ◌∷◌, [], ◌+◌, Option, Some, None, true, false, set, length, ap, sym, ◌∙◌, subst, arith, rules}
use Rattle.std.specs.Prelude.{slice_index, slice_index_or}
use Rattle.std.specs.Option.{is_some}
use Rattle.std.proofs.lemmas.List.{get_or_default}
use Rattle.std.proofs.lemmas.Grind.{common_steps}
use Rattle.pt_sets.specs.Automata.{next_of}
use Rattle.pt_query.specs.Walks.{IsWalk}
use Rattle.pt_query.proofs.WalkSteps.{walk-again, walk-new, walk-short}
use Rattle.pt_query.proofs.walking.follow.Goals as goal

-- a place that was read, and whether it holds a number
some-of : (x y : Option ℕ) → y ≡ x → is_some y ≡ true → (j : ℕ) × (x ≡ Some j)
some-of x None is h = absurd (cc)
some-of x (Some j) is h = (j, sym is)

none-of : (x y : Option ℕ) → y ≡ x → is_some y ≡ false → x ≡ None
none-of x None is h = sym is
none-of x (Some j) is h = absurd (cc)

pub returns-then-is_some-clause-walked : goal.returns-then-is_some-clause-walked
returns-then-is_some-clause-walked g c =
    let w = c.args.walk.now in
    let a = c.args.table.now in
    let state : c.index.result.now ≡ slice_index w.states.items c.args.place = grind (arith, common_steps) in
    let next : c.next-next.result ≡ next_of a (slice_index w.states.items c.args.place) c.args.letter = c.next-next.ensures ∙ ap (λ (q : ℕ). next_of a q c.args.letter) state in
    let inside : c.next-next.result < length w.places.items = search rules in
    let read = c.index-2.ensures ∙ get_or_default w.places.items c.next-next.result c.index-2.result.now None inside in
    let (j, met) = some-of (slice_index_or w.places.items c.next-next.result None) c.index-2.result.now read (sym c.is_some.ensures ∙ c.if-is_some.true) in
    walk-again a g.start w.states.items w.parents.items w.letters.items w.places.items c.args.place c.args.letter j c.requires.1.1 (ap (λ (q : ℕ). slice_index_or w.places.items q None) (sym next) ∙ met)

pub push_state-requires-clause-few : goal.push_state-requires-clause-few
push_state-requires-clause-few g c =
    let w = c.args.walk.now in
    let short = walk-short c.args.table.now g.start w.states.items w.parents.items w.letters.items w.places.items c.args.place c.args.letter c.requires.1.1 in
    let few = c.is_automaton.ensures.few_states in
    omega (arith, short, few)

pub returns-clause-walked : goal.returns-clause-walked
returns-clause-walked g c =
    let w = c.args.walk.now in
    let n = c.push_state.new.walk in
    let a = c.args.table.now in
    let i = c.args.place in
    let l = c.args.letter in
    let state : c.index.result.now ≡ slice_index w.states.items i = grind (arith, common_steps) in
    let next : c.next-next.result ≡ next_of a (slice_index w.states.items i) l = c.next-next.ensures ∙ ap (λ (q : ℕ). next_of a q l) state in
    let inside : c.next-next.result < length w.places.items = search rules in
    let read = c.index-2.ensures ∙ get_or_default w.places.items c.next-next.result c.index-2.result.now None inside in
    let unmet = none-of (slice_index_or w.places.items c.next-next.result None) c.index-2.result.now read (sym c.is_some.ensures ∙ c.if-is_some.false) in
    let step = walk-new a g.start w.states.items w.parents.items w.letters.items w.places.items i l c.requires.1.1 c.is_automaton.ensures c.requires.0 c.requires.1.0 (ap (λ (q : ℕ). slice_index_or w.places.items q None) (sym next) ∙ unmet) in
    let e = c.in_ok-push_state.ensures in
    let q = next_of a (slice_index w.states.items i) l in
    let order : n.states.items ≡ w.states.items ++ q ∷ [] = e.states ∙ ap (λ (x : ℕ). w.states.items ++ x ∷ []) next in
    let places : n.places.items ≡ set w.places.items q (Some (length w.states.items)) = e.places ∙ ap (λ (x : ℕ). set w.places.items x (Some (length w.states.items))) next in
    subst (λ (x : List ℕ). IsWalk a g.start x n.parents.items n.letters.items n.places.items i (l + 1)) (sym order)
    (subst (λ (x : List ℕ). IsWalk a g.start (w.states.items ++ q ∷ []) x n.letters.items n.places.items i (l + 1)) (sym e.parents)
    (subst (λ (x : List ℕ). IsWalk a g.start (w.states.items ++ q ∷ []) (w.parents.items ++ i ∷ []) x n.places.items i (l + 1)) (sym e.letters)
    (subst (λ (x : List (Option ℕ)). IsWalk a g.start (w.states.items ++ q ∷ []) (w.parents.items ++ i ∷ []) (w.letters.items ++ l ∷ []) x i (l + 1)) (sym places) step)))
