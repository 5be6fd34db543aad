use Rattle.std.proofs.Common.{◌≡◌, ◌+◌, ◌<◌, sym, subst, rules, arith}
use Rattle.pt_sets.specs.Automata.{next_of}
use Rattle.pt_query.proofs.FreshWords.{IsRowTo, row-push, row-ends, more-accepted}
use Rattle.pt_query.proofs.ordered.next_row.Goals as goal

pub loop-state-preserved : goal.loop-state-preserved
loop-state-preserved c n some row =
    let a = c.args.table.now in
    let q = c.loop-state.state in
    let inside : q < a.states = search rules in
    subst (IsRowTo a (n + 1) (q + 1)) (sym c.in_ok-push.ensures.items)
    (row-push a (n + 1) q c.loop-state.next.items c.leads_into.result (c.loop-state.invariant n some row)
    (λ w accepted len.
    let (l, is_l, (u, rest, count)) = more-accepted a q n w some accepted len in
    c.leads_into.ensures.1 (l, is_l, row.marked (next_of a q l) u (c.states-state-end.ensures.valid.closed q l inside is_l) rest count)))

pub returns : goal.returns
returns c n some row =
    let a = c.args.table.now in
    let all : c.loop-state.state ≡ a.states = omega (arith, c.loop-state-test.false, c.loop-state.auto.state-end, c.states-state-end.ensures.states) in
    row-ends a (n + 1) c.loop-state.state c.loop-state.next.items all (c.loop-state.invariant n some row)
