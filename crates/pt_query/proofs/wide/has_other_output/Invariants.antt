use Rattle.std.proofs.Common.{◌≢◌, ℕ, ◌<◌}
use Rattle.std.specs.Prelude.{IsTrue}
use Rattle.pt_sets.specs.Automata.{output_of}
use Rattle.pt_query.proofs.wide.has_other_output.Given as goal

abbrev pub invariant-loop-sign : goal.invariant-loop-sign
invariant-loop-sign l = (s : ℕ) → s < l.sign → l.letter ≢ s → IsTrue (output_of l.table l.state s) → ⊥
