use Rattle.std.proofs.Common.{ℕ, ◌<◌}
use Rattle.pt_sets.specs.Automata.{SetOfState}
use Rattle.pt_query.specs.Steps.{IsStill}
use Rattle.pt_query.proofs.finiteness.has_none.Given as goal

abbrev pub invariant-loop-letter : goal.invariant-loop-letter
invariant-loop-letter l = (r : ℕ) → r < l.letter → IsStill l.table.tracks (SetOfState l.table l.state) r
