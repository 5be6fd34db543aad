use Rattle.pt_terms.proofs.Pairs.{implied_stops}
use Rattle.pt_terms.proofs.elaborator.Elaborator.implied_by.Goals as goal

pub returns-in-Err-clause-gives : goal.returns-in-Err-clause-gives
returns-in-Err-clause-gives c = implied_stops c.args.at c.args.nodes.now c.loop-left.left c.args.last c.loop-left.so_far c.args.self.now c.loop-left.self c.loop-left-test.true c.loop-left.invariant.within c.loop-left.invariant.told _ c.in-Err.ensures.gives
