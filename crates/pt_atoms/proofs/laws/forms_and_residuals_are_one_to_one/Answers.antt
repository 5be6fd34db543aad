use Rattle.pt_atoms.proofs.Forms.{same_form, same_residual, same_parameter_form, same_form_parameter}
use Rattle.pt_atoms.proofs.laws.forms_and_residuals_are_one_to_one.Goals as goal

pub returns-clause-form : goal.returns-clause-form
returns-clause-form c = λ n v w h. (same_residual n v w h, same_form n v w h)

pub returns-clause-parameter : goal.returns-clause-parameter
returns-clause-parameter c = λ n v w h. (λ e. same_residual n v w h (same_parameter_form n v w h e), λ e. same_form_parameter n v w (same_form n v w h e))
