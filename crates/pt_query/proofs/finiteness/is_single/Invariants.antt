use Rattle.std.proofs.Common.{◌≢◌, ℕ, ◌<◌}
use Rattle.pt_query.specs.Tame.{IsOff}
use Rattle.pt_query.proofs.finiteness.is_single.Given as goal

abbrev pub invariant-loop-letter : goal.invariant-loop-letter
invariant-loop-letter l = (m : ℕ) → m < l.letter → m ≢ l.sign → IsOff l.table l.state m
