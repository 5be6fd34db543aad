use Rattle.std.proofs.Common.{◌≡◌, ◌≤◌, length, take, vec_len, vec_capacity}
use Rattle.pt_cells.proofs.noted.notes_again.Given as goal

abbrev pub invariant-loop-k : goal.invariant-loop-k
invariant-loop-k l = record {
  walked : l.walked.items ≡ l.fn.walked.items;
  all : l.all.items ≡ take l.k l.fn.walked.items;
  written : vec_len l.all ≡ l.k;
  room : length l.fn.walked.items ≤ vec_capacity l.all;
}
