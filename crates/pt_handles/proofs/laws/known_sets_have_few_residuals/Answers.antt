use Rattle.pt_handles.proofs.FewStates.{few-residuals}
use Rattle.pt_handles.proofs.laws.known_sets_have_few_residuals.Goals as goal

pub returns : goal.returns
returns c = few-residuals
