use Rattle.std.specs.Prelude.{ℕ, pos, [], ◌∷◌}
use Rattle.pt_truth.specs.Examples.{doubled, even}
use Rattle.pt_truth.proofs.tests.three_families_or_more_than_two.Goals as goal

pub returns : goal.returns
returns c = c.costs_are_decided.ensures.bound even 2
