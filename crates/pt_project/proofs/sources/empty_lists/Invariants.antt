use Rattle.std.proofs.Common.{◌≡◌, ℕ, [], length}
use Rattle.pt_project.specs.Closing.{row_of}
use Rattle.pt_project.proofs.sources.empty_lists.Given as goal

abbrev pub invariant-loop : goal.invariant-loop
invariant-loop l = record {
  count : length l.lists.items ≡ l.counter;
  empty : (y : ℕ) → row_of l.lists.items y ≡ [];
}
