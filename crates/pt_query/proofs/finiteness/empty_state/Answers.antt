use Rattle.std.proofs.Common.{◌≡◌, false, arith, rules, below_more}
use Rattle.pt_query.proofs.finiteness.empty_state.Goals as goal

pub loop-state-preserved : goal.loop-state-preserved
loop-state-preserved c =
    let no : c.has_none.result ≡ false = search rules in
    below_more _ _ c.loop-state.invariant (λ none. let yes = c.has_none.ensures.1 none in absurd (cc))

pub returns : goal.returns
returns c q inside = c.loop-state.invariant q (let past = c.loop-state-test.false in let count = c.states-state-end.ensures.states in omega (arith, past, count, inside))
