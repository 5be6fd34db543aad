use Rattle.std.specs.Prelude.{ℕ, pos, [], ◌∷◌}
use Rattle.pt_truth.specs.Examples.{doubled, even}
use Rattle.pt_truth.proofs.tests.a_half_that_cannot_be_missing_is_there.Goals as goal

pub returns : goal.returns
returns c = c.what_cannot_fail_holds.ensures.some 1 doubled (λ (v : ℕ). pos 4)
