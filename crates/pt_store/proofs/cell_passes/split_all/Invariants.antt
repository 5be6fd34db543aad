use Rattle.std.proofs.Common.{◌≡◌, take}
use Rattle.pt_store.proofs.cell_passes.split_all.Given as goal

abbrev pub invariant-loop-shard : goal.invariant-loop-shard
invariant-loop-shard l = record {
  kept : l.passes.items ≡ l.fn.passes.items;
  same : l.others.items ≡ take l.shard l.fn.passes.items;
}
