use Rattle.pt_fresh.proofs.Meanings.{NodeLaws}
use Rattle.pt_fresh.proofs.Comparisons.{FormLaws}
use Rattle.pt_fresh.proofs.Definitions.{divide-means, divide-definite}
use Rattle.pt_fresh.proofs.laws.quotients_are_definite.Goals as goal

nodes : (c : goal.After-values_of_forms_add_and_scale) → NodeLaws
nodes c = record {
  new = c.made_nodes_have_their_trees.ensures;
  old = c.appended_nodes_change_no_earlier_one.ensures.tree;
}

forms : (c : goal.After-values_of_forms_add_and_scale) → FormLaws
forms c = record {
  difference = c.values_of_forms_add_and_scale.ensures.difference;
  multiple = c.values_of_forms_add_and_scale.ensures.multiple;
  difference_terms = c.forms_that_are_made_have_their_terms_in_order.ensures.difference;
  multiple_terms = c.forms_that_are_made_have_their_terms_in_order.ensures.multiple;
}

pub returns-clause-means : goal.returns-clause-means
returns-clause-means c = divide-means (nodes c) c.nodes_compare_values.ensures.compare (forms c)

pub returns-clause-definite : goal.returns-clause-definite
returns-clause-definite c = divide-definite (nodes c) c.nodes_compare_values.ensures.compare (forms c)
