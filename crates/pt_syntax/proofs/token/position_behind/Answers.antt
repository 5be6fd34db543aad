use Rattle.std.proofs.Common.{◌∙◌, sym, arith}
use Rattle.pt_syntax.proofs.TokenLaws.{place_step}
use Rattle.pt_syntax.proofs.token.position_behind.Goals as goal

pub loop-b-preserved : goal.loop-b-preserved
loop-b-preserved c = record {
  told = sym (place_step c.loop-b.at c.position_after-at.result c.args.bytes.now c.loop-b.b-index c.loop-b-test.true c.position_after-at.ensures.place) ∙ c.loop-b.invariant.told;
  line = omega arith;
  column = omega arith;
}
