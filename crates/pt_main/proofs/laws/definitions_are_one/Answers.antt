use Rattle.pt_main.proofs.Defined.{one_defined}
use Rattle.pt_main.proofs.laws.definitions_are_one.Goals as goal

pub returns : goal.returns
returns c = one_defined c.options_are_one.ensures c.outputs_are_one.ensures
