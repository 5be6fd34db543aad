use Rattle.std.proofs.Common.{◌≡◌, ◌<◌, ℕ, length, take}
use Rattle.std.specs.List.Sorted.{IsPermutation}
use Rattle.pt_workers.specs.Works.{hand_of, all_of, dealt}
use Rattle.pt_workers.proofs.deal.deal.Given as goal

abbrev pub invariant-loop-j : goal.invariant-loop-j
invariant-loop-j l = record {
  count : length l.hands.items ≡ l.count;
  each : (k : ℕ) → k < l.count → hand_of l.hands.items k ≡ dealt l.count k 0 (take l.j l.numbers);
  once : IsPermutation (take l.j l.numbers) (all_of l.hands.items);
}
