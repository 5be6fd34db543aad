use Rattle.pt_store.proofs.Longer.{full-longer}
use Rattle.pt_store.proofs.laws.full_lists_stay_full.Goals as goal

pub returns : goal.returns
returns c = full-longer
