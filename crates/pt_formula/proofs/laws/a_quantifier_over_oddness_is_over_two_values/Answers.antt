use Rattle.pt_formula.proofs.OddnessLaws.{two_values}
use Rattle.pt_formula.proofs.laws.a_quantifier_over_oddness_is_over_two_values.Goals as goal

pub returns : goal.returns
returns c = two_values
