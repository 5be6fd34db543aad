use Rattle.std.proofs.Common.{map}
use Rattle.pt_terms.proofs.Substituting.{adding_fails, adding_goes}
use Rattle.pt_terms.proofs.elaborator.Elaborator.substituted.Goals as goal

pub returns-in-Err-clause-gives : goal.returns-in-Err-clause-gives
returns-in-Err-clause-gives c = adding_fails c.args.at (map (λ r. (r.0, r.1.now)) c.args.replacements.now) c.loop-t.so_far c.args.terms.now c.loop-t.t-index c.args.self.now _ c.loop-t-test.true c.loop-t.invariant.told _ _ c.in-Err.ensures.gives

pub loop-t-preserved : goal.loop-t-preserved
loop-t-preserved c = record {
  told = adding_goes c.args.at (map (λ r. (r.0, r.1.now)) c.args.replacements.now) c.loop-t.so_far c.args.terms.now c.loop-t.t-index c.args.self.now _ c.loop-t-test.true c.loop-t.invariant.told _ _ c.in-Ok.ensures.gives;
  range = c.in-Ok.ensures.range;
}
