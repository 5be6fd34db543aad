use Rattle.std.proofs.Common.{◌≡◌, ℕ, [], length}
use Rattle.pt_workers.specs.Works.{hand_of, all_of}
use Rattle.pt_workers.proofs.deal.empty_hands.Given as goal

abbrev pub invariant-loop : goal.invariant-loop
invariant-loop l = record {
  count : length l.hands.items ≡ l.counter;
  empty : (k : ℕ) → hand_of l.hands.items k ≡ [];
  all : all_of l.hands.items ≡ [];
}
