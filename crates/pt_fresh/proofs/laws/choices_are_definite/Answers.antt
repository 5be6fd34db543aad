use Rattle.pt_formula.specs.Formulas.{tree_of}
use Rattle.pt_fresh.proofs.Meanings.{NodeLaws}
use Rattle.pt_fresh.proofs.Definitions.{choice-means, choice-definite}
use Rattle.pt_fresh.proofs.Settlings.{not-free}
use Rattle.pt_fresh.proofs.laws.choices_are_definite.Goals as goal

nodes : (c : goal.After-truth_is_decided) → NodeLaws
nodes c = record {
  new = c.made_nodes_have_their_trees.ensures;
  old = c.appended_nodes_change_no_earlier_one.ensures.tree;
}

pub returns-clause-means : goal.returns-clause-means
returns-clause-means c = choice-means (nodes c) c.nodes_compare_values.ensures.compare

pub returns-clause-definite : goal.returns-clause-definite
returns-clause-definite c = λ f g v d a b at i h ta tb within free_d free_a free_b e.
    choice-definite (tree_of g i) (tree_of f d) v a b
    (λ values. c.truth_is_decided.ensures (tree_of f d) values)
    (λ values k. not-free c.truth_depends_on_free_variables_alone.ensures (tree_of f d) values v k free_d)
    free_a free_b
    (choice-means (nodes c) c.nodes_compare_values.ensures.compare f g v d a b at i h ta tb within e).holds
