use Rattle.std.proofs.Common.{length}
use Rattle.pt_formula.specs.Truth.{free_variables}
use Rattle.pt_formula.specs.Costs.{SameValue}
use Rattle.pt_truth.proofs.Costs.{cost_decided, tree_counted, tree_costs_exclude}
use Rattle.pt_truth.proofs.Refusing.{refusal_decided}
use Rattle.pt_truth.proofs.laws.refusals_are_decided.Goals as goal

pub returns : goal.returns
returns c f roots bound formula inside =
    let depends = c.truth_depends_on_free_variables_alone.ensures in
    refusal_decided f formula roots bound inside
    (λ t. cost_decided (SameValue t) (length (free_variables t)) (tree_counted depends t) bound)
    (λ t. tree_costs_exclude depends t bound)
