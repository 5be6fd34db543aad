use Rattle.std.proofs.Common.{◌∙◌}
use Rattle.pt_code.specs.Component.{component}
use Rattle.pt_code.proofs.bounds.bounds_of.Goals as goal

pub loop-init : goal.loop-init
loop-init c = record { all = c.in_ok-bounds.ensures.all ∙ c.requires.all; bounds = c.in_ok-bounds.ensures.bounds (component c.args.piece.now) }
