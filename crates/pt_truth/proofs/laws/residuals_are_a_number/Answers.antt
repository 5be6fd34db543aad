use Rattle.std.proofs.Common.{length}
use Rattle.pt_sets.specs.Costs.{SameResidual}
use Rattle.pt_formula.specs.Truth.{Solutions, Widened, free_variables}
use Rattle.pt_truth.proofs.Costs.{exact_cost, residuals_counted, widened_regular}
use Rattle.pt_truth.proofs.laws.residuals_are_a_number.Goals as goal

pub returns : goal.returns
returns c t outer =
    let set = Widened outer (free_variables t) (Solutions t) in
    exact_cost (SameResidual (length outer) set) (length outer)
    (residuals_counted (length outer) set (widened_regular c.truth_depends_on_free_variables_alone.ensures t outer))
