use Rattle.std.proofs.Common.{◌≡◌, ◌-◌, ap, length, length-drop, ◌∙◌, arith}
use Rattle.pt_terms.proofs.BoundNames.{truncated}
use Rattle.pt_terms.proofs.bindings.Bindings.truncate.Goals as goal

pub loop-self-preserved : goal.loop-self-preserved
loop-self-preserved c =
    let long : length c.pop.new.self ≡ length c.loop-self.self - 1 = ap length c.pop.ensures ∙ length-drop 1 c.loop-self.self in
    record {
      told = truncated c.args.self.now c.loop-self.self c.pop.new.self c.loop-self.invariant.told (omega arith) c.loop-self.invariant.less c.pop.ensures;
      within = omega arith;
      less = omega arith;
    }
