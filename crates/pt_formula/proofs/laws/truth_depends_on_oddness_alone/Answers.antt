use Rattle.pt_formula.proofs.OddnessLaws.{same_of_all, same_of_free, same_solutions}
use Rattle.pt_formula.proofs.laws.truth_depends_on_oddness_alone.Goals as goal

pub returns-clause-all : goal.returns-clause-all
returns-clause-all c = same_of_all

pub returns-clause-free : goal.returns-clause-free
returns-clause-free c = same_of_free

pub returns-clause-solutions : goal.returns-clause-solutions
returns-clause-solutions c = same_solutions
