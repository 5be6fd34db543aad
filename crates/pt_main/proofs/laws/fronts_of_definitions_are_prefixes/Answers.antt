use Rattle.pt_main.proofs.Defined.{front_of_defined}
use Rattle.pt_main.proofs.laws.fronts_of_definitions_are_prefixes.Goals as goal

pub returns : goal.returns
returns c = front_of_defined c.options_are_one.ensures c.outputs_are_one.ensures c.fronts_are_prefixes.ensures
