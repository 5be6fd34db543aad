use Rattle.std.proofs.Common.{length}
use Rattle.pt_formula.specs.Truth.{Solutions, Widened, free_variables}
use Rattle.pt_truth.proofs.Costs.{widened_regular}
use Rattle.pt_truth.proofs.Ordered.{least_member, first_members}
use Rattle.pt_truth.proofs.laws.solutions_have_first_ones.Goals as goal

pub returns : goal.returns
returns c =
    let depends = c.truth_depends_on_free_variables_alone.ensures in
    record {
      least = λ t outer z count is_in.
          least_member (length outer) (Widened outer (free_variables t) (Solutions t)) (widened_regular depends t outer).decided z count is_in;
      first = λ t outer k. first_members (length outer) (Widened outer (free_variables t) (Solutions t)) (widened_regular depends t outer) k;
    }
