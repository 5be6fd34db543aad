use Rattle.pt_formula.specs.Formulas.{tree_of}
use Rattle.pt_formula.specs.Truth.{free_variables}
use Rattle.pt_fresh.proofs.Meanings.{NodeLaws}
use Rattle.pt_fresh.proofs.Settlings.{close-means, settled-one, agree-all}
use Rattle.pt_fresh.proofs.laws.closing_is_substitution.Goals as goal

nodes : (c : goal.After-truth_depends_on_free_variables_alone) → NodeLaws
nodes c = record {
  new = c.made_nodes_have_their_trees.ensures;
  old = c.appended_nodes_change_no_earlier_one.ensures.tree;
}

pub returns-clause-substitutes : goal.returns-clause-substitutes
returns-clause-substitutes c = λ f g a side at i h within is e values settled settles.
    let free = c.truth_depends_on_free_variables_alone.ensures in
    let means = close-means (nodes c) free side f g a at i h within is.nodes is.definite e in (
      λ x. let (y, also, holds) = (means.holds values).0 x in
          (free (tree_of f a) y settled (agree-all y settled (free_variables (tree_of f a)) (settled-one f side values y settled is.definite also settles))).0 holds,
      λ x. (means.holds values).1 (settled, settles, x),
    )

pub returns-clause-means : goal.returns-clause-means
returns-clause-means c = λ f g a side at i h within is e. close-means (nodes c) c.truth_depends_on_free_variables_alone.ensures side f g a at i h within is.nodes is.definite e
