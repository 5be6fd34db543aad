use Rattle.std.proofs.Common.{◌≡◌, List, ℕ, length}
use Rattle.pt_query.specs.Fresh.{IsFreshFrom, FirstAtLeast}
use Rattle.pt_query.proofs.ordered.+least_from.Given as goal

abbrev pub decreases-least_from : goal.decreases-least_from
decreases-least_from l = l.count

abbrev pub invariant-loop-letter : goal.invariant-loop-letter
invariant-loop-letter l = (y : List ℕ) → IsFreshFrom l.table l.fn.before l.state y → length y ≡ l.count → FirstAtLeast l.low y → FirstAtLeast l.letter y
