use Rattle.std.proofs.Common.{◌∙◌}
use Rattle.pt_syntax.proofs.FrontLemmas.{literal_step}
use Rattle.pt_syntax.proofs.front.literal_len.Goals as goal

pub loop-i-preserved : goal.loop-i-preserved
loop-i-preserved c = literal_step c.args.behind.now c.loop-i.i c.loop-i.is_inside c.loop-i-test.true c.else-not-is_inside.either ∙ c.loop-i.invariant
