use Rattle.std.proofs.Common.{◌≡◌, [], All, length, replicate}
use Rattle.pt_cells.specs.Seeing.{Cells, IsOf}
use Rattle.pt_store.specs.Shared.{AtEach, lists_of}
use Rattle.pt_store.proofs.shared.SharedStore.new.Given as goal

abbrev pub invariant-loop : goal.invariant-loop
invariant-loop g l = record {
  count : length l.cells.items ≡ l.counter;
  limits : All (λ (shard : Cells). shard.limit ≡ l.fn.limit) l.cells.items;
  each : AtEach IsOf l.cells.items l.passes.items;
  empty : lists_of l.passes.items ≡ replicate l.counter [];
}
