use Rattle.pt_product.proofs.tests.common_is_none.Goals as goal

pub combine-requires-clause-known_a : goal.combine-requires-clause-known_a
combine-requires-clause-known_a g c = λ lifetimes within.
    (c.longer_lists_know.ensures (λ code shards. 0) c.adopt.new.pass.lists c.adopt-2.new.pass.lists c.in_ok-zero.zero c.in_ok-minus.ensures.extends c.in_ok-zero.ensures.ok.known).0
