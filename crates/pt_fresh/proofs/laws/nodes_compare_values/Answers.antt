use Rattle.pt_fresh.proofs.Meanings.{NodeLaws}
use Rattle.pt_fresh.proofs.Comparisons.{FormLaws, compare-means, divisible-means}
use Rattle.pt_fresh.proofs.laws.nodes_compare_values.Goals as goal

nodes : (c : goal.After-values_of_forms_add_and_scale) → NodeLaws
nodes c = record {
  new = c.made_nodes_have_their_trees.ensures;
  old = c.appended_nodes_change_no_earlier_one.ensures.tree;
}

forms : (c : goal.After-values_of_forms_add_and_scale) → FormLaws
forms c = record {
  difference = c.values_of_forms_add_and_scale.ensures.difference;
  multiple = c.values_of_forms_add_and_scale.ensures.multiple;
  difference_terms = c.forms_that_are_made_have_their_terms_in_order.ensures.difference;
  multiple_terms = c.forms_that_are_made_have_their_terms_in_order.ensures.multiple;
}

pub returns-clause-compare : goal.returns-clause-compare
returns-clause-compare c = compare-means (nodes c) (forms c)

pub returns-clause-divisible : goal.returns-clause-divisible
returns-clause-divisible c = divisible-means (nodes c)
