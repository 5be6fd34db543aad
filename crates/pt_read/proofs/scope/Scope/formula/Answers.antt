use Rattle.std.proofs.Common.{ℕ, ℤ, List, subst}
use Rattle.std.specs.Prelude.{◌↔◌}
use Rattle.pt_formula.specs.Formulas.{tree_of}
use Rattle.pt_formula.specs.Truth.{Solutions}
use Rattle.pt_terms.specs.Sorts.{AgreeBySort}
use Rattle.pt_read.specs.Scope.{State}
use Rattle.pt_read.proofs.scope.Scope.formula.Goals as goal

pub returns-clause-oddness : goal.returns-clause-oddness
returns-clause-oddness c =
    subst (λ (s : State). (i : ℕ) (y z : List ℤ) → AgreeBySort s.given (tree_of s.formula i) y z → Solutions (tree_of s.formula i) y ↔ Solutions (tree_of s.formula i) z) c.self.view_is
    (c.solutions_depend_on_oddness_alone.ensures c.self.inside.work.formula c.self.inside.work.given c.formula.ensures.sorted)
