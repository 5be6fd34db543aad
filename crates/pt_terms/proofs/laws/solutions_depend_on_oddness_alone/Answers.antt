use Rattle.std.specs.Prelude.{suc}
use Rattle.pt_formula.specs.Formulas.{tree_of}
use Rattle.pt_terms.proofs.SortedTrees.{asks-tree}
use Rattle.pt_terms.specs.Sorts.{is_truth}
use Rattle.pt_terms.proofs.laws.solutions_depend_on_oddness_alone.Goals as goal

pub returns : goal.returns
returns c = λ f given s i y z h.
    c.truth_depends_on_oddness_alone.ensures.solutions (is_truth given) (tree_of f i) y z (asks-tree f given s (suc i) i) h.0 h.1
