use Rattle.pt_formula.proofs.TruthLaws.{same_truth}
use Rattle.pt_formula.proofs.laws.truth_depends_on_free_variables_alone.Goals as goal

pub returns : goal.returns
returns c = same_truth
