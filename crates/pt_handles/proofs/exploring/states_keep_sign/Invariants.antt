use Rattle.std.proofs.Common.{ℕ, ◌<◌}
use Rattle.pt_sets.specs.Automata.{KeepsSign, next_of, output_of}
use Rattle.pt_handles.specs.Knowing.{table_of}
use Rattle.pt_handles.proofs.exploring.states_keep_sign.Given as goal

abbrev pub invariant-loop-state : goal.invariant-loop-state
invariant-loop-state l = (q : ℕ) → q < l.state → KeepsSign (next_of (table_of l.tracks l.states l.outputs l.edges)) (output_of (table_of l.tracks l.states l.outputs l.edges)) l.tracks q
