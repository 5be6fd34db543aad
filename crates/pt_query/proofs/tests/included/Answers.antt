use Rattle.pt_query.proofs.tests.included.Goals as goal

pub is_subset-requires-clause-known_a : goal.is_subset-requires-clause-known_a
is_subset-requires-clause-known_a g c =
    (c.longer_lists_know.ensures (λ code shards. 0) c.adopt.new.pass.lists c.adopt-2.new.pass.lists c.in_ok-a.a c.in_ok-b.ensures.extends c.in_ok-a.ensures.ok.known).0
