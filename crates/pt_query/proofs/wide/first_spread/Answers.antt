use Rattle.std.proofs.Common.{◌≡◌, ℕ, ◌+◌, ◌<◌, List, [], ◌∷◌, ◌++◌, Option, sym, ◌∙◌, subst, arith, rules}
use Rattle.pt_query.specs.declared.wide.Spread.{Spread}
use Rattle.pt_query.specs.Spreads.{HasSpread}
use Rattle.pt_query.proofs.SpreadSteps.{IsFirst, spread-short, first-begins, first-push, first-skip}
use Rattle.pt_query.proofs.wide.first_spread.Goals.{then-row-state+in_ok-push_state, else-row-state}
use Rattle.pt_query.proofs.wide.first_spread.Goals as goal

pub loop-state-init : goal.loop-state-init
loop-state-init c = first-begins c.args.table.now c.args.row.now c.new.result.items c.new-2.result.items c.in_ok-no_places.field-0.items c.new.ensures.items c.new-2.ensures.items (c.in_ok-no_places.ensures.count ∙ c.states.ensures.states) c.in_ok-no_places.ensures.none

pub push_state-requires-clause-few : goal.push_state-requires-clause-few
push_state-requires-clause-few c =
    let w = c.loop-state.spread in
    let short = spread-short c.args.table.now c.args.row.now c.loop-state.state w.states.items w.depths.items w.places.items 0 0 c.loop-state.invariant.spread in
    let few = c.states.ensures.valid.few_states in
    omega (arith, short, few)

pub loop-state-preserved : goal.loop-state-preserved
loop-state-preserved c =
    let a = c.args.table.now in
    let row = c.args.row.now in
    let k = c.loop-state.state in
    let old = c.loop-state.spread in
    let inside : k < a.states = search rules in
    let P : Spread → Type 0 = λ s. IsFirst a row (k + 1) s.states.items s.depths.items s.places.items in
    elim c.if-row-state.branch [
      | then-row-state+in_ok-push_state w ↦
          let n = w.push_state.new.spread in
          let e = w.in_ok-push_state.ensures in
          let step = first-push a row k old.states.items old.depths.items old.places.items c.loop-state.invariant w.if-row-state.true inside in
          subst P (sym w.spread-is)
          (subst (λ (x : List ℕ). IsFirst a row (k + 1) x n.depths.items n.places.items) (sym e.states)
          (subst (λ (x : List ℕ). IsFirst a row (k + 1) (old.states.items ++ k ∷ []) x n.places.items) (sym e.depths)
          (subst (λ (x : List (Option ℕ)). IsFirst a row (k + 1) (old.states.items ++ k ∷ []) (old.depths.items ++ 0 ∷ []) x) (sym e.places) step)))
      | else-row-state w ↦ subst P (sym w.spread-is) (first-skip a row k old.states.items old.depths.items old.places.items c.loop-state.invariant (λ yes. let no = w.if-row-state.false in cc))
    ]

pub returns : goal.returns
returns c =
    let a = c.args.table.now in
    let w = c.loop-state.spread in
    let past = c.loop-state-test.false in
    let end = c.loop-state.auto.state-end in
    let count = c.states-state-end.ensures.states in
    let all : c.loop-state.state ≡ a.states = omega (arith, past, end, count) in
    subst (λ (k : ℕ). HasSpread a c.args.row.now k w 0 0) all c.loop-state.invariant.spread
