use Rattle.std.proofs.Common.{◌≡◌, ◌⊎◌, inl, inr, ℕ, List, length}
use Rattle.std.specs.Prelude.{ℤ}
use Rattle.std.proofs.lemmas.Bool.{cases_eq}
use Rattle.pt_formula.specs.Truth.{Solutions, Widened, free_variables}
use Rattle.pt_truth.proofs.Bounding.{bounded_decided}
use Rattle.pt_truth.proofs.Costs.{widened_regular, widened_alike}
use Rattle.pt_truth.proofs.Deciding.{some_member, equal_sets_decided, subset_decided}
use Rattle.pt_truth.proofs.laws.facts_on_solutions_are_decided.Goals as goal

pub returns : goal.returns
returns c =
    let depends = c.truth_depends_on_free_variables_alone.ensures in
    record {
      member = λ t outer z.
          elim (cases_eq (length z) (length outer)) [
            | inl count ↦ (widened_regular depends t outer).decided z count
            | inr other ↦ inr (λ h. other h.0)
          ];
      some = λ t outer. some_member (length outer) (Widened outer (free_variables t) (Solutions t)) (widened_regular depends t outer);
      equal = λ a b outer other count.
          equal_sets_decided (length outer) (Widened outer (free_variables a) (Solutions a)) (Widened other (free_variables b) (Solutions b))
          (widened_regular depends a outer) (widened_alike depends b other (length outer) count);
      subset = λ a b outer other count.
          subset_decided (length outer) (Widened outer (free_variables a) (Solutions a)) (Widened other (free_variables b) (Solutions b))
          (widened_regular depends a outer) (widened_alike depends b other (length outer) count);
      bounded = λ t outer. bounded_decided (length outer) (Widened outer (free_variables t) (Solutions t)) (widened_regular depends t outer);
    }
