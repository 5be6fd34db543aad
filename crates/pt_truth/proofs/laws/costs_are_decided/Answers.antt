use Rattle.std.proofs.Common.{length}
use Rattle.pt_sets.proofs.Counting.{is-within}
use Rattle.pt_sets.specs.Costs.{SamePair}
use Rattle.pt_formula.specs.Truth.{Solutions, Widened, free_variables}
use Rattle.pt_formula.specs.Costs.{SameValue}
use Rattle.pt_truth.proofs.Costs.{exact_cost, cost_decided, pairs_counted, tree_counted, widened_regular, widened_alike}
use Rattle.pt_truth.proofs.laws.costs_are_decided.Goals as goal

pub returns : goal.returns
returns c =
    let depends = c.truth_depends_on_free_variables_alone.ensures in
    record {
      exact = λ t. exact_cost (SameValue t) (length (free_variables t)) (tree_counted depends t);
      within = λ t.
          let (n, is) = exact_cost (SameValue t) (length (free_variables t)) (tree_counted depends t) in
          (n, is-within (SameValue t) (length (free_variables t)) n is);
      bound = λ t bound. cost_decided (SameValue t) (length (free_variables t)) (tree_counted depends t) bound;
      pair = λ a b outer other bound count.
          let first = Widened outer (free_variables a) (Solutions a) in
          let second = Widened other (free_variables b) (Solutions b) in
          cost_decided (SamePair (length outer) first second) (length outer)
          (pairs_counted (length outer) first second (widened_regular depends a outer) (widened_alike depends b other (length outer) count)) bound;
    }
