use Rattle.pt_formula.proofs.OddnessLaws.{truth_atom}
use Rattle.pt_formula.proofs.laws.truth_atoms_hold_at_odd_values.Goals as goal

pub returns : goal.returns
returns c = truth_atom
