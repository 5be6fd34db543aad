use Rattle.std.specs.Prelude.{ℕ, pos, [], ◌∷◌}
use Rattle.std.proofs.Common.{arith}
use Rattle.pt_formula.specs.Formulas.{start}
use Rattle.pt_truth.specs.Examples.{doubled, even}
use Rattle.pt_truth.proofs.tests.the_first_node_is_refused_or_not.Goals as goal

pub returns : goal.returns
returns c = λ formula. c.refusals_are_decided.ensures start (0 ∷ []) 1 formula (omega arith, tt)
