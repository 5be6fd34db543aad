use Rattle.std.proofs.Common.{ℕ, ◌<◌}
use Rattle.std.specs.Prelude.{IsTrue}
use Rattle.pt_sets.specs.Automata.{output_of}
use Rattle.pt_query.proofs.witness.first_sign.Given as goal

abbrev pub invariant-loop-sign : goal.invariant-loop-sign
invariant-loop-sign l = (r : ℕ) → r < l.sign → IsTrue (output_of l.table l.state r) → ⊥
