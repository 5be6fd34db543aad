use Rattle.std.proofs.Common.{arith}
use Rattle.pt_formula.specs.Formulas.{tree_of}
use Rattle.pt_eval.proofs.CostLaws.{cost-excluded}
use Rattle.pt_eval.proofs.laws.refusals_are_exact.Goals as goal

pub returns : goal.returns
returns c = record {
  one = λ f roots bound i j first second. (let le = first.least j second.reached second.costly in let ge = second.least i first.reached first.costly in omega (arith, le, ge));
  none = λ f roots bound i refused within. cost-excluded (tree_of f i) bound refused.costly.above (within i refused.reached);
}
