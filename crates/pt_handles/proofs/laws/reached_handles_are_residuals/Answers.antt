use Rattle.pt_handles.proofs.Residuals.{reached_residuals, reached_one}
use Rattle.pt_handles.proofs.laws.reached_handles_are_residuals.Goals as goal

pub returns-clause-residuals : goal.returns-clause-residuals
returns-clause-residuals c = reached_residuals

pub returns-clause-one : goal.returns-clause-one
returns-clause-one c = reached_one
