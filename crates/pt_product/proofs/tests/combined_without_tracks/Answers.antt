use Rattle.pt_product.proofs.tests.combined_without_tracks.Goals as goal

pub combine_table-requires-clause-known_a : goal.combine_table-requires-clause-known_a
combine_table-requires-clause-known_a g c =
    (c.longer_lists_know.ensures (λ code shards. 0) c.adopt.new.pass.lists c.adopt-2.new.pass.lists c.in_ok-one.one c.in_ok-other.ensures.extends c.in_ok-one.ensures.ok.known).0
