use Rattle.std.proofs.Common.{◌≢◌, ℕ, ◌<◌, ◌^◌}
use Rattle.std.specs.Prelude.{IsTrue}
use Rattle.pt_sets.specs.Automata.{output_of, next_of}
use Rattle.pt_query.proofs.wide.is_final.Given as goal

abbrev pub invariant-loop-letter : goal.invariant-loop-letter
invariant-loop-letter l = (m s : ℕ) → m < l.letter → s < 2 ^ l.table.tracks → m ≢ s → IsTrue (output_of l.table (next_of l.table l.state m) s) → ⊥
