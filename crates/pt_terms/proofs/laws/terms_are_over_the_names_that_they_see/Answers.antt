use Rattle.pt_terms.proofs.TermLaws.{whole-formula, terms-over}
use Rattle.pt_terms.proofs.laws.terms_are_over_the_names_that_they_see.Goals as goal

pub returns-clause-whole : goal.returns-clause-whole
returns-clause-whole c = λ f h. whole-formula c.appended_nodes_change_no_earlier_one.ensures.front c.trees_are_made_of_those_of_the_children.ensures f h

pub returns-clause-terms : goal.returns-clause-terms
returns-clause-terms c = λ f h. terms-over f (whole-formula c.appended_nodes_change_no_earlier_one.ensures.front c.trees_are_made_of_those_of_the_children.ensures f h)
