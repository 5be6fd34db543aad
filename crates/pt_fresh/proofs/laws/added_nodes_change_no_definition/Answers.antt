use Rattle.pt_fresh.proofs.Meanings.{NodeLaws}
use Rattle.pt_fresh.proofs.StepLaws.{grows-append}
use Rattle.pt_fresh.proofs.Settlings.{side-later, settles-later}
use Rattle.pt_fresh.proofs.laws.added_nodes_change_no_definition.Goals as goal

nodes : (c : goal.After-made_nodes_have_their_trees) → NodeLaws
nodes c = record {
  new = c.made_nodes_have_their_trees.ensures;
  old = c.appended_nodes_change_no_earlier_one.ensures.tree;
}

pub returns-clause-side : goal.returns-clause-side
returns-clause-side c = λ f more side h s. side-later (nodes c) f _ side h (grows-append f more) s

pub returns-clause-settled : goal.returns-clause-settled
returns-clause-settled c = λ f more side values settled h s settles. settles-later (nodes c) f _ side values settled h (grows-append f more) s.nodes settles
