use Rattle.std.proofs.Common.{length}
use Rattle.pt_sets.specs.Costs.{SameResidual}
use Rattle.pt_sets.proofs.Counting.{costs-exclude, residual-equivalence}
use Rattle.pt_atoms.specs.Atoms.{NormalSet}
use Rattle.pt_atoms.proofs.laws.costs_over_and_within_a_bound_exclude_each_other.Goals as goal

pub returns : goal.returns
returns c = λ n B.
    let t = length n.coefficients in
    costs-exclude (SameResidual t (NormalSet n)) t (residual-equivalence t (NormalSet n)) B
