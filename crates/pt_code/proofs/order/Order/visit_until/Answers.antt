use Rattle.std.proofs.Common.{◌≡◌, ℕ, List, ap, sym, subst, ◌∙◌, get_or}
use Rattle.pt_code.specs.Limiting.{IsLate}
use Rattle.pt_code.specs.Searching.{visit_one}
use Rattle.pt_code.proofs.Limiting.{late-more, soon-at, visits-next}
use Rattle.pt_code.proofs.order.Order.visit_until.Goals as goal

pub returns-then-meets_below-clause-soon : goal.returns-then-meets_below-clause-soon
returns-then-meets_below-clause-soon c hit =
    soon-at c.args.limits.now c.args.self.now.states.items c.loop-state.self.states.items c.args.states.now c.loop-state.state-index c.loop-state-test.true c.loop-state.invariant.states (c.if-meets_below.ensures.soon hit)

pub loop-state-preserved : goal.loop-state-preserved
loop-state-preserved c =
    let old = c.args.self.now.states.items in
    let states = c.args.states.now in
    let i = c.loop-state.state-index in
    let now = c.loop-state.self.states.items in
    let step : c.meets_below.new.self.states.items ≡ visit_one now (get_or states i 0) = c.meets_below.ensures.states c.if-meets_below.false in
    record {
      states = step ∙ ap (λ (l : List ℕ). visit_one l (get_or states i 0)) c.loop-state.invariant.states ∙ visits-next old states i c.loop-state-test.true;
      late = subst (IsLate c.args.limits.now) (sym step) (late-more c.args.limits.now now (get_or states i 0) c.loop-state.invariant.late (c.meets_below.ensures.late c.if-meets_below.false));
      numbered = c.meets_below.ensures.numbered;
      room = c.meets_below.ensures.room ∙ c.loop-state.invariant.room;
    }
