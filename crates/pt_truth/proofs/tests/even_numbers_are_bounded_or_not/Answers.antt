use Rattle.std.specs.Prelude.{ℕ, pos, [], ◌∷◌}
use Rattle.pt_truth.specs.Examples.{doubled, even}
use Rattle.pt_truth.proofs.tests.even_numbers_are_bounded_or_not.Goals as goal

pub returns : goal.returns
returns c = c.facts_on_solutions_are_decided.ensures.bounded even (0 ∷ [])
