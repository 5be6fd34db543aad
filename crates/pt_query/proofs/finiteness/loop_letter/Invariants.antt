use Rattle.std.proofs.Common.{◌≡◌, ℕ, ◌<◌}
use Rattle.pt_sets.specs.Automata.{next_of}
use Rattle.pt_query.proofs.finiteness.loop_letter.Given as goal

abbrev pub invariant-loop-letter : goal.invariant-loop-letter
invariant-loop-letter l = (m : ℕ) → m < l.letter → next_of l.table l.state m ≡ l.state → ⊥
