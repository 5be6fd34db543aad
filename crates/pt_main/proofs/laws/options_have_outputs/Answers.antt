use Rattle.pt_main.proofs.Defined.{defined}
use Rattle.pt_main.proofs.laws.options_have_outputs.Goals as goal

pub returns : goal.returns
returns c = defined c.texts_have_outputs.ensures
