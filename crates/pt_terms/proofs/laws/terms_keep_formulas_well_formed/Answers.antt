use Rattle.pt_formula.specs.declared.node.Node.TheVariants as node
use Rattle.pt_terms.proofs.KeepNodes.{Laws, keeps-make}
use Rattle.pt_terms.proofs.KeepTerms.{keeps-terms}
use Rattle.pt_terms.proofs.laws.terms_keep_formulas_well_formed.Goals as goal

laws : (c : goal.After-trees_are_made_of_those_of_the_children) → Laws
laws c = record {
  nodes = c.appended_nodes_change_no_earlier_one.ensures.node;
  trees = c.appended_nodes_change_no_earlier_one.ensures.tree;
  parts = c.trees_are_made_of_those_of_the_children.ensures;
}

pub returns-clause-conjunctions : goal.returns-clause-conjunctions
returns-clause-conjunctions c = λ a b p w h k. keeps-make (laws c) (node.And a b) p w (h, k)

pub returns-clause-terms : goal.returns-clause-terms
returns-clause-terms c = keeps-terms (laws c)
