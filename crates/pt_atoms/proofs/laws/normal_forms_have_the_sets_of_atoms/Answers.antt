use Rattle.pt_atoms.proofs.AtomForms.{normal_form_is, is_normal_from}
use Rattle.pt_atoms.proofs.laws.normal_forms_have_the_sets_of_atoms.Goals as goal

pub returns-clause-normal_form : goal.returns-clause-normal_form
returns-clause-normal_form c = λ a n h f. is_normal_from a.kind a.coefficients a.constant n h.tracks (normal_form_is a n h f)

pub returns-clause-set : goal.returns-clause-set
returns-clause-set c = λ a n h f. record { agrees = (normal_form_is a n h f).set }
