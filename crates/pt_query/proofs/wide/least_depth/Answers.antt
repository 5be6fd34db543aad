use Rattle.std.proofs.Common.{◌≡◌, ℕ, ◌<◌, ◌≤◌, inl, inr, length, ap, sym, ◌∙◌, subst, arith, rules}
use Rattle.std.specs.Prelude.{slice_index}
use Rattle.std.proofs.lemmas.Bool.{cases_eq}
use Rattle.std.proofs.lemmas.Grind.{common_steps}
use Rattle.pt_query.specs.Spreads.{HasSpread, IsFinal, IsLeastDepth}
use Rattle.pt_query.proofs.SpreadSteps.{spread-short, met-in-time, nearest}
use Rattle.pt_query.proofs.wide.least_depth.Goals as goal

pub returns-then-is_final-clause-some : goal.returns-then-is_final-clause-some
returns-then-is_final-clause-some c =
    let w = c.loop-place.spread in
    let a = c.args.table.now in
    let i = c.loop-place.place in
    let inside : i < length w.states.items = search rules in
    let at = c.loop-place.invariant.spread in
    let state : c.index.result.now ≡ slice_index w.states.items i = grind (arith, common_steps) in
    let depth : c.index-then-is_final.result.now ≡ slice_index w.depths.items i = grind (arith, common_steps) in
    let final = subst (IsFinal a) state (c.is_final.ensures.0 c.if-is_final.true) in
    subst (IsLeastDepth a c.args.row.now) (sym depth) (record {
      some = (slice_index w.states.items i, at.reached i inside, final);
      least = nearest a c.args.row.now w.states.items w.depths.items w.places.items i inside at (IsFinal a) c.loop-place.invariant.earlier;
    })

pub returns-then-is_final-clause-few : goal.returns-then-is_final-clause-few
returns-then-is_final-clause-few c =
    let w = c.loop-place.spread in
    let i = c.loop-place.place in
    let inside : i < length w.states.items = search rules in
    let depth : c.index-then-is_final.result.now ≡ slice_index w.depths.items i = grind (arith, common_steps) in
    let small = c.loop-place.invariant.spread.small i inside in
    let short = spread-short c.args.table.now c.args.row.now c.args.table.now.states w.states.items w.depths.items w.places.items i 0 c.loop-place.invariant.spread in
    let few = c.is_automaton.ensures.few_states in
    omega (arith, depth, small, short, few, inside)

pub overflow_add-place : goal.overflow_add-place
overflow_add-place c =
    let w = c.loop-place.spread in
    let inside : c.loop-place.place < length w.states.items = search rules in
    let short = spread-short c.args.table.now c.args.row.now c.args.table.now.states w.states.items w.depths.items w.places.items c.loop-place.place 0 c.loop-place.invariant.spread in
    let few = c.is_automaton.ensures.few_states in
    omega (arith, short, few, inside)

pub loop-place-smaller : goal.loop-place-smaller
loop-place-smaller c =
    let w = c.loop-place.spread in
    let inside : c.loop-place.place < length w.states.items = search rules in
    let short = spread-short c.args.table.now c.args.row.now c.args.table.now.states w.states.items w.depths.items w.places.items c.loop-place.place 0 c.loop-place.invariant.spread in
    omega (arith, short, inside)

pub follow_all-requires-clause-spread : goal.follow_all-requires-clause-spread
follow_all-requires-clause-spread c = (c.args.row.now, c.loop-place.invariant.spread)

pub loop-place-preserved : goal.loop-place-preserved
loop-place-preserved c =
    let w = c.loop-place.spread in
    let a = c.args.table.now in
    let i = c.loop-place.place in
    let inside : i < length w.states.items = search rules in
    let grows = c.in_ok-follow_all.ensures.grows in
    let kept = c.in_ok-follow_all.ensures.kept in
    let state : c.index.result.now ≡ slice_index w.states.items i = grind (arith, common_steps) in
    record {
      spread = c.in_ok-follow_all.ensures.spread c.args.row.now c.loop-place.invariant.spread;
      before = omega (arith, inside, grows);
      earlier = λ j h final. elim (cases_eq j i) [
        | inl same ↦
            let here = subst (IsFinal a) (ap (slice_index c.follow_all.new.spread.states.items) same ∙ kept i inside ∙ sym state) final in
            let yes = c.is_final.ensures.1 here in
            let no = c.if-is_final.false in
            absurd (cc)
        | inr other ↦ c.loop-place.invariant.earlier j (omega (arith, h, other)) (subst (IsFinal a) (kept j (omega (arith, h, inside))) final)
      ];
    }

pub returns-clause-none : goal.returns-clause-none
returns-clause-none c e q reached final =
    let w = c.loop-place.spread in
    let a = c.args.table.now in
    let past : length w.states.items ≤ c.loop-place.place = search rules in
    let before = c.loop-place.invariant.before in
    let all : c.loop-place.place ≡ length w.states.items = omega (arith, past, before) in
    let done = subst (λ (n : ℕ). HasSpread a c.args.row.now a.states w n 0) all c.loop-place.invariant.spread in
    let (m, last, is, le) = met-in-time a c.args.row.now w.states.items w.depths.items w.places.items done e q reached in
    c.loop-place.invariant.earlier m (omega (arith, last, all)) (subst (IsFinal a) (sym is) final)
