use Rattle.std.proofs.Common.{◌≡◌, List, sym, subst, get_or}
use Rattle.pt_cells.specs.Seeing.{Cells, Seen, IsOf}
use Rattle.pt_store.proofs.cell_passes.split_all.Goals as goal

pub split-requires : goal.split-requires
split-requires c =
    let at = c.loop-shard.shard in
    let shard = c.index-shards-shard.result in
    let pass = c.index_mut.result.now in
    subst (λ (p : Seen). IsOf shard p) (sym c.index_mut.ensures.value)
    (subst (λ (s : Cells). IsOf s (get_or c.loop-shard.passes.items at pass)) (sym c.index-shards-shard.is)
    (subst (λ (ps : List Seen). IsOf (get_or c.args.shards.now at shard) (get_or ps at pass)) (sym c.loop-shard.invariant.kept) (c.requires.each at shard pass c.loop-shard-test.true)))
