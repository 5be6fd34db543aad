use Rattle.pt_formula.proofs.MadeNodes.{made_node}
use Rattle.pt_formula.proofs.laws.made_nodes_have_their_trees.Goals as goal

pub returns : goal.returns
returns c = made_node
