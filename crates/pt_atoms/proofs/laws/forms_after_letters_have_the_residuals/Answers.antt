use Rattle.pt_atoms.proofs.Forms.{form_after_is}
use Rattle.pt_atoms.proofs.laws.forms_after_letters_have_the_residuals.Goals as goal

pub returns-clause-normal_form : goal.returns-clause-normal_form
returns-clause-normal_form c = λ n w h. (form_after_is n w h).normal

pub returns-clause-tracks : goal.returns-clause-tracks
returns-clause-tracks c = λ n w h. (form_after_is n w h).size

pub returns-clause-set : goal.returns-clause-set
returns-clause-set c = λ n w h. (form_after_is n w h).set
