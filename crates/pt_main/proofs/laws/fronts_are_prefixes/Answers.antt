use Rattle.pt_main.proofs.Fronts.{front_is_prefix}
use Rattle.pt_main.proofs.laws.fronts_are_prefixes.Goals as goal

pub returns : goal.returns
returns c = front_is_prefix c.refusals_are_exact.ensures.none
