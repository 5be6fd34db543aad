use Rattle.pt_drill.proofs.Short.{short}
use Rattle.pt_drill.proofs.laws.scripts_are_short.Goals as goal

pub returns : goal.returns
returns c = short
