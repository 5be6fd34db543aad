use Rattle.std.proofs.Common.{◌≡◌, ℕ, ◌+◌, ◌<◌, length, get_or}
use Rattle.pt_sets.specs.Automata.{output_of}
use Rattle.pt_refine.specs.Refining.{binary}
use Rattle.pt_refine.proofs.keys.output_keys.Given as goal

abbrev pub invariant-loop-q : goal.invariant-loop-q
invariant-loop-q l = record {
  size : length l.keys.items ≡ l.q;
  keys : (i : ℕ) → i < l.q → get_or l.keys.items i 0 ≡ binary (λ j. output_of l.table i (l.from + j)) l.count;
}
