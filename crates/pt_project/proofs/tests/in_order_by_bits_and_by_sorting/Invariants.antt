use Rattle.std.proofs.Common.{◌*◌, ◌≤◌, length}
use Rattle.pt_project.proofs.tests.in_order_by_bits_and_by_sorting.Given as goal

abbrev pub invariant-loop-k : goal.invariant-loop-k
invariant-loop-k l = record {
  room : 199 ≤ 64 * length l.words.items;
  few : length l.words.items ≤ 1024;
}
