use Rattle.std.proofs.Common.{rules, eqb}
use Rattle.std.proofs.lemmas.Iterator.Consumers.{YieldsList-turn, YieldsList-end}
use Rattle.std.proofs.lemmas.Iterator.Splits.{YieldsList-from_slice_split}
use borrow.Author.Tests.{tests}
use Rattle.pt_drill.specs.Summary.{lines_of, number_on}
use Rattle.pt_drill.proofs.Totals.{next_sum, whole_sum}
use Rattle.pt_drill.proofs.output.sum.Goals as goal

pub loop-line-preserved : goal.loop-line-preserved
loop-line-preserved c =
    next_sum number_on (lines_of c.args.output.now) c.loop-line.yielded c.in-Some.line c.in-Some.line.now c.loop-line.sum c.in_ok-n.n c.in_ok-sum.sum
    (YieldsList-turn (YieldsList-from_slice_split _ (λ b. eqb b 10) c.args.output.now (cc) (cc) (cc) (λ x b q k. search (rules, tests))) c.loop-line.yielded _ c.loop-line.yielded_by _ _ c.in-Some.line c.in-Some.is c.next.ensures.steps)
    c.loop-line.invariant c.in_ok-n.ensures c.in_ok-sum.ensures.1

pub returns : goal.returns
returns c =
    let t = YieldsList-end (YieldsList-from_slice_split _ (λ b. eqb b 10) c.args.output.now (cc) (cc) (cc) (λ x b q k. search (rules, tests))) c.loop-line.yielded _ c.loop-line.yielded_by _ _ c.in-None.is c.next.ensures.steps in
    whole_sum number_on (lines_of c.args.output.now) c.loop-line.yielded c.loop-line.sum t.1 c.loop-line.invariant
