use Rattle.pt_formula.proofs.SumValues.{form_sum_value, form_difference_value, form_scale_value}
use Rattle.pt_formula.proofs.laws.values_of_forms_add_and_scale.Goals as goal

pub returns-clause-sum : goal.returns-clause-sum
returns-clause-sum c = form_sum_value

pub returns-clause-difference : goal.returns-clause-difference
returns-clause-difference c = form_difference_value

pub returns-clause-multiple : goal.returns-clause-multiple
returns-clause-multiple c = form_scale_value
