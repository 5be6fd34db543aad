use Rattle.std.proofs.Common.{◌≡◌, ◌+◌}
use Rattle.pt_sets.specs.Automata.{output_of}
use Rattle.pt_refine.specs.Refining.{binary}
use Rattle.pt_refine.proofs.keys.output_key.Given as goal

abbrev pub invariant-loop-i : goal.invariant-loop-i
invariant-loop-i l = l.key ≡ binary (λ j. output_of l.table l.state (l.from + j)) l.i
