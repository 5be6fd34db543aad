use Rattle.std.proofs.Common.{◌≡◌, ◌≢◌, ℕ, ◌<◌, ◌≤◌, length, get_or}
use Rattle.pt_refine.proofs.partition.renumber.Given as goal

abbrev pub invariant-loop-at : goal.invariant-loop-at
invariant-loop-at l = record {
  len : length l.class.items ≡ length l.initial.class.items;
  moved : (i : ℕ) → l.low ≤ i → i < l.at → get_or l.class.items (get_or l.order i 0) 0 ≡ l.number;
  stays : (q : ℕ) → ((i : ℕ) → l.low ≤ i → i < l.at → get_or l.order i 0 ≢ q) → get_or l.class.items q 0 ≡ get_or l.initial.class.items q 0;
}
