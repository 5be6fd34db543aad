use Rattle.std.proofs.Common.{ℕ, ◌<◌, ◌^◌}
use Rattle.std.specs.Prelude.{IsTrue, slice_index}
use Rattle.pt_sets.specs.Automata.{output_of}
use Rattle.pt_query.proofs.witness.first_output.Given as goal

abbrev pub invariant-loop-place : goal.invariant-loop-place
invariant-loop-place l = (j r : ℕ) → j < l.place → r < 2 ^ l.table.tracks → IsTrue (output_of l.table (slice_index l.walk.states.items j) r) → ⊥
