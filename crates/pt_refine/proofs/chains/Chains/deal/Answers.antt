use Rattle.std.proofs.Common.{rules, arith, ◌≡◌, ℕ, ◌≤◌, ◌<◌, length, get_or, sym, ◌∙◌, subst}
use Rattle.pt_refine.specs.Halving.{IsLayout}
use Rattle.pt_refine.specs.Dealing.{Deals}
use Rattle.pt_refine.proofs.Chaining.{DealtTo, dealt-none, dealt-more, dealt-all}
use Rattle.pt_refine.proofs.chains.Chains.deal.Goals as goal

pub loop-at-init : goal.loop-at-init
loop-at-init c =
    let a = c.args.table.now in
    let p = c.args.partition.now in
    let lay = rw c.requires.states at c.requires.partition.layout in
    let begin = dealt-none a c.requires.automaton (length p.starts.items) (λ i. get_or p.order.items i 0) (λ q. get_or p.place.items q 0) (λ q. get_or p.class.items q 0) (λ d. get_or p.starts.items d 0) (λ d. get_or p.ends.items d 0) (λ d. get_or p.marked.items d 0) lay c.args.class c.requires.class c.clear_rows.new.rows.items c.clear_rows.ensures.empty in
    record {
      from = let e = c.start-at.ensures in omega arith;
      dealt = subst (λ (i : ℕ). DealtTo a (λ q. get_or p.place.items q 0) (λ q. get_or p.class.items q 0) c.args.class i c.clear_rows.new.rows.items) (sym c.start-at.ensures) begin;
      count = c.clear_rows.ensures.count ∙ c.requires.rows;
    }

pub state-requires : goal.state-requires
state-requires c =
    let lay = c.requires.partition.layout in
    let high : c.loop-at.at < get_or c.args.partition.now.ends.items c.args.class 0 = let e = c.end-at-end.ensures in let lt = c.loop-at-test.true in omega arith in
    let member = lay.members c.args.class c.loop-at.at c.requires.class c.loop-at.invariant.from high in
    let inside = member.0 in
    omega (arith, c.requires.partition.order_len)

pub deal_state-requires-clause-state : goal.deal_state-requires-clause-state
deal_state-requires-clause-state c =
    let lay = c.requires.partition.layout in
    let high : c.loop-at.at < get_or c.args.partition.now.ends.items c.args.class 0 = let e = c.end-at-end.ensures in let lt = c.loop-at-test.true in omega arith in
    let member = lay.members c.args.class c.loop-at.at c.requires.class c.loop-at.invariant.from high in
    let inside = lay.order_in c.loop-at.at member.0 in
    let is = c.state.ensures in
    omega (arith, c.requires.states)

pub loop-at-preserved : goal.loop-at-preserved
loop-at-preserved c =
    let a = c.args.table.now in
    let p = c.args.partition.now in
    let was = c.loop-at.invariant in
    let high : c.loop-at.at < get_or p.ends.items c.args.class 0 = let e = c.end-at-end.ensures in let lt = c.loop-at-test.true in omega arith in
    let lay = rw c.requires.states at c.requires.partition.layout in
    let deals : Deals a (get_or p.order.items c.loop-at.at 0) c.loop-at.rows.items c.deal_state.new.rows.items = rw c.state.ensures at c.in_ok-deal_state.ensures.deals in
    record {
      from = let low = was.from in omega arith;
      dealt = dealt-more a c.requires.automaton (length p.starts.items) (λ i. get_or p.order.items i 0) (λ q. get_or p.place.items q 0) (λ q. get_or p.class.items q 0) (λ d. get_or p.starts.items d 0) (λ d. get_or p.ends.items d 0) (λ d. get_or p.marked.items d 0) lay c.args.class c.requires.class c.loop-at.at c.loop-at.rows.items c.deal_state.new.rows.items was.dealt was.from high deals;
      count = c.deal_state.ensures.rows ∙ was.count;
    }

pub returns-clause-dealt : goal.returns-clause-dealt
returns-clause-dealt c =
    let a = c.args.table.now in
    let p = c.args.partition.now in
    let lay = rw c.requires.states at c.requires.partition.layout in
    let all : get_or p.ends.items c.args.class 0 ≤ c.loop-at.at = let e = c.end-at-end.ensures in let ge = c.loop-at-test.false in omega arith in
    dealt-all a c.requires.automaton (length p.starts.items) (λ i. get_or p.order.items i 0) (λ q. get_or p.place.items q 0) (λ q. get_or p.class.items q 0) (λ d. get_or p.starts.items d 0) (λ d. get_or p.ends.items d 0) (λ d. get_or p.marked.items d 0) lay c.args.class c.requires.class c.loop-at.at c.loop-at.rows.items c.loop-at.invariant.dealt all
