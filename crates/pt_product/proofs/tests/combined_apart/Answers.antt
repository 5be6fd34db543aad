use Rattle.pt_product.proofs.tests.combined_apart.Goals as goal

pub combine_table-requires-clause-known_a : goal.combine_table-requires-clause-known_a
combine_table-requires-clause-known_a g c =
    (c.longer_lists_know.ensures (λ code shards. 0) c.adopt.new.pass.lists c.adopt-2.new.pass.lists c.in_ok-zero.zero c.in_ok-minus.ensures.extends c.in_ok-zero.ensures.ok.known).0
