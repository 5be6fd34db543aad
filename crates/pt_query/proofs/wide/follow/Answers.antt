use Rattle.std.proofs.Common.{◌≡◌, ℕ, ◌+◌, ◌<◌, List, [], ◌∷◌, ◌++◌, true, false, Option, Some, None, length, set, refl, ap, sym, ◌∙◌, subst, arith, rules}
use Rattle.std.specs.Prelude.{slice_index, slice_index_or}
use Rattle.std.specs.Option.{is_some}
use Rattle.std.proofs.lemmas.List.{get_or_default}
use Rattle.std.proofs.lemmas.Grind.{common_steps}
use Rattle.pt_sets.specs.Automata.{next_of}
use Rattle.pt_query.specs.Spreads.{IsSpread}
use Rattle.pt_query.proofs.SpreadSteps.{spread-short, spread-again, spread-new, reached-next}
use Rattle.pt_query.proofs.wide.follow.Goals as goal

-- a place that was read, and whether it holds a number
some-of : (x y : Option ℕ) → y ≡ x → is_some y ≡ true → (j : ℕ) × (x ≡ Some j)
some-of x None is h = absurd (cc)
some-of x (Some j) is h = (j, sym is)

none-of : (x y : Option ℕ) → y ≡ x → is_some y ≡ false → x ≡ None
none-of x None is h = sym is
none-of x (Some j) is h = absurd (cc)

pub returns-then-is_some-clause-spread : goal.returns-then-is_some-clause-spread
returns-then-is_some-clause-spread c row old =
    let w = c.args.spread.now in
    let a = c.args.table.now in
    let i = c.args.place in
    let state : c.index.result.now ≡ slice_index w.states.items i = grind (arith, common_steps) in
    let next : c.next-next.result ≡ next_of a (slice_index w.states.items i) c.args.letter = c.next-next.ensures ∙ ap (λ (q : ℕ). next_of a q c.args.letter) state in
    let inside : c.next-next.result < length w.places.items = search rules in
    let read = c.index-2.ensures ∙ get_or_default w.places.items c.next-next.result c.index-2.result.now None inside in
    let (j, met) = some-of (slice_index_or w.places.items c.next-next.result None) c.index-2.result.now read (sym c.is_some.ensures ∙ c.if-is_some.true) in
    spread-again a row a.states w.states.items w.depths.items w.places.items i c.args.letter j c.requires.place old (ap (λ (q : ℕ). slice_index_or w.places.items q None) (sym next) ∙ met)

pub overflow_add-depth : goal.overflow_add-depth
overflow_add-depth c =
    let w = c.args.spread.now in
    let depth : c.index-3.result.now ≡ slice_index w.depths.items c.args.place = grind (arith, common_steps) in
    let small = c.requires.spread.1.small c.args.place c.requires.place in
    let short = spread-short c.args.table.now c.requires.spread.0 c.args.table.now.states w.states.items w.depths.items w.places.items c.args.place c.args.letter c.requires.spread.1 in
    let few = c.is_automaton.ensures.few_states in
    omega (arith, depth, small, short, few, c.requires.place)

pub push_state-requires-clause-few : goal.push_state-requires-clause-few
push_state-requires-clause-few c =
    let w = c.args.spread.now in
    let short = spread-short c.args.table.now c.requires.spread.0 c.args.table.now.states w.states.items w.depths.items w.places.items c.args.place c.args.letter c.requires.spread.1 in
    let few = c.is_automaton.ensures.few_states in
    omega (arith, short, few)

pub returns-clause-spread : goal.returns-clause-spread
returns-clause-spread c row old =
    let w = c.args.spread.now in
    let n = c.push_state.new.spread in
    let a = c.args.table.now in
    let i = c.args.place in
    let l = c.args.letter in
    let state : c.index.result.now ≡ slice_index w.states.items i = grind (arith, common_steps) in
    let next : c.next-next.result ≡ next_of a (slice_index w.states.items i) l = c.next-next.ensures ∙ ap (λ (q : ℕ). next_of a q l) state in
    let inside : c.next-next.result < length w.places.items = search rules in
    let read = c.index-2.ensures ∙ get_or_default w.places.items c.next-next.result c.index-2.result.now None inside in
    let unmet = none-of (slice_index_or w.places.items c.next-next.result None) c.index-2.result.now read (sym c.is_some.ensures ∙ c.if-is_some.false) in
    let q = next_of a (slice_index w.states.items i) l in
    let d = slice_index w.depths.items i + 1 in
    let depth_is : c.index-3.result.now ≡ slice_index w.depths.items i = grind (arith, common_steps) in
    let depth : c.index-3.result.now + 1 ≡ d = ap (λ (m : ℕ). m + 1) depth_is in
    let in_states = c.is_automaton.ensures.closed (slice_index w.states.items i) l (old.within i c.requires.place) c.requires.letter in
    let small = old.small i c.requires.place in
    let step = spread-new a row a.states w.states.items w.depths.items w.places.items i l q d old in_states (ap (λ (x : ℕ). slice_index_or w.places.items x None) (sym next) ∙ unmet)
    (reached-next a row (slice_index w.depths.items i) (slice_index w.states.items i) l c.requires.letter (old.reached i c.requires.place)) (λ j h. old.near j h c.requires.place) (omega (arith, small, c.requires.place)) c.requires.place refl refl in
    let e = c.in_ok-push_state.ensures in
    let order : n.states.items ≡ w.states.items ++ q ∷ [] = e.states ∙ ap (λ (x : ℕ). w.states.items ++ x ∷ []) next in
    let depths : n.depths.items ≡ w.depths.items ++ d ∷ [] = e.depths ∙ ap (λ (x : ℕ). w.depths.items ++ x ∷ []) depth in
    let places : n.places.items ≡ set w.places.items q (Some (length w.states.items)) = e.places ∙ ap (λ (x : ℕ). set w.places.items x (Some (length w.states.items))) next in
    subst (λ (x : List ℕ). IsSpread a row a.states x n.depths.items n.places.items i (l + 1)) (sym order)
    (subst (λ (x : List ℕ). IsSpread a row a.states (w.states.items ++ q ∷ []) x n.places.items i (l + 1)) (sym depths)
    (subst (λ (x : List (Option ℕ)). IsSpread a row a.states (w.states.items ++ q ∷ []) (w.depths.items ++ d ∷ []) x i (l + 1)) (sym places) step))
