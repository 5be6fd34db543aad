use Rattle.std.proofs.Common.{ℕ, ◌<◌}
use Rattle.pt_sets.specs.Automata.{SetOfState}
use Rattle.pt_query.specs.Queries.{IsEmptySet}
use Rattle.pt_query.proofs.finiteness.empty_state.Given as goal

abbrev pub invariant-loop-state : goal.invariant-loop-state
invariant-loop-state l = (q : ℕ) → q < l.state → IsEmptySet l.table.tracks (SetOfState l.table q) → ⊥
