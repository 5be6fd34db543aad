use Rattle.std.proofs.Common.{ℕ, ◌<◌}
use Rattle.std.specs.Prelude.{IsTrue}
use Rattle.pt_sets.specs.Automata.{output_of}
use Rattle.pt_query.proofs.inclusion.is_included.Given as goal

abbrev pub invariant-loop-sign : goal.invariant-loop-sign
invariant-loop-sign l = (s : ℕ) → s < l.sign → IsTrue (output_of l.first l.pair.first s) → IsTrue (output_of l.second l.pair.second s)
