use Rattle.std.specs.Prelude.{ℕ, pos, [], ◌∷◌}
use Rattle.pt_truth.specs.Examples.{doubled, even}
use Rattle.pt_truth.proofs.tests.even_numbers_have_residuals.Goals as goal

pub returns : goal.returns
returns c = c.residuals_are_a_number.ensures even (0 ∷ [])
