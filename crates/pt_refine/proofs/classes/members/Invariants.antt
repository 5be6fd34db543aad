use Rattle.std.proofs.Common.{◌≡◌, ℕ, ◌<◌, length, get_or}
use Rattle.pt_refine.proofs.classes.members.Given as goal

abbrev pub invariant-loop-q : goal.invariant-loop-q
invariant-loop-q l = record {
  size : length l.members.items ≡ l.count;
  within : (i : ℕ) → i < l.q → get_or l.members.items (get_or l.numbers i 0) 0 < length l.numbers;
  member : (i : ℕ) → i < l.q → get_or l.numbers (get_or l.members.items (get_or l.numbers i 0) 0) 0 ≡ get_or l.numbers i 0;
}
