use Rattle.std.specs.Prelude.{ℕ, pos, [], ◌∷◌}
use Rattle.pt_truth.specs.Examples.{doubled, even}
use Rattle.pt_truth.proofs.tests.even_numbers_have_a_first_ten.Goals as goal

pub returns : goal.returns
returns c = c.solutions_have_first_ones.ensures.first even (0 ∷ []) 10
