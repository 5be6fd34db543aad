use Rattle.pt_main.proofs.OneRun.{one_output}
use Rattle.pt_main.proofs.laws.outputs_are_one.Goals as goal

pub returns : goal.returns
returns c = one_output c.refusals_are_exact.ensures.none
