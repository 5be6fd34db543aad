use Rattle.std.proofs.Common.{◌≡◌}
use Rattle.pt_query.proofs.tests.table_of.Given as goal

abbrev pub invariant-loop : goal.invariant-loop
invariant-loop l = record { tracks : l.builder.tracks ≡ 1; states : l.builder.states ≡ l.counter; end : l.end ≡ l.states }

abbrev pub invariant-loop-letter : goal.invariant-loop-letter
invariant-loop-letter l = record { tracks : l.builder.tracks ≡ 1; states : l.builder.states ≡ l.states }

abbrev pub invariant-loop-from : goal.invariant-loop-from
invariant-loop-from l = record { tracks : l.builder.tracks ≡ 1; states : l.builder.states ≡ l.states }

abbrev pub invariant-loop-state : goal.invariant-loop-state
invariant-loop-state l = record { tracks : l.builder.tracks ≡ 1; states : l.builder.states ≡ l.states }
