use Rattle.std.proofs.Common.{◌≡◌, List, ℕ, length}
use Rattle.pt_query.specs.Fresh.{IsFreshFrom, FirstAtLeast}
use Rattle.pt_query.proofs.ordered.last_letter.Given as goal

abbrev pub invariant-loop-sign : goal.invariant-loop-sign
invariant-loop-sign l = (y : List ℕ) → IsFreshFrom l.table l.before l.state y → length y ≡ 1 → FirstAtLeast l.low y → FirstAtLeast l.sign y
