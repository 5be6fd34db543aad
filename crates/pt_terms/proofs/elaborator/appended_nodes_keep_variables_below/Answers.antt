use Rattle.std.proofs.Common.{[], ◌∷◌}
use Rattle.pt_terms.proofs.BelowLemmas.{appended_below}
use Rattle.pt_terms.proofs.elaborator.appended_nodes_keep_variables_below.Goals as goal

pub returns : goal.returns
returns c f n p given hf hg h free bound =
    appended_below f n p given hf hg h free bound
    (λ i lt. c.appended_nodes_change_no_earlier_one.ensures.node f ((n, p) ∷ []) i lt)
    (λ i lt. c.appended_nodes_change_no_earlier_one.ensures.tree f ((n, p) ∷ []) i hf lt)
    (λ i. c.trees_are_made_of_those_of_the_children.ensures _ i hg)
