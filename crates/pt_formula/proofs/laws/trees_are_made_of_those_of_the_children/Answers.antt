use Rattle.pt_formula.proofs.TreeLaws.{tree_at}
use Rattle.pt_formula.proofs.EntryLaws.{earlier_children}
use Rattle.pt_formula.proofs.laws.trees_are_made_of_those_of_the_children.Goals as goal

pub returns : goal.returns
returns c = λ f i h. tree_at f (earlier_children f h) i
