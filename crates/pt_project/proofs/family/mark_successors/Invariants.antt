use Rattle.std.proofs.Common.{◌≡◌, ◌↔◌, ℕ, length, take}
use Rattle.pt_sets.specs.Automata.{next_of}
use Rattle.pt_project.specs.Bits.{HasBit}
use Rattle.pt_project.proofs.WordLaws.{IsNext}
use Rattle.pt_project.proofs.family.mark_successors.Given as goal

abbrev pub invariant-loop-state : goal.invariant-loop-state
invariant-loop-state l = record {
  count : length l.words.items ≡ length l.fn.words.items;
  marked : (y : ℕ) → HasBit l.words.items y ↔ IsNext (λ x. next_of l.table x l.zero) (λ x. next_of l.table x l.one) (take l.state-index l.family) y;
}
