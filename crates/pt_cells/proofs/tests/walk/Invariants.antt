use Rattle.pt_cells.proofs.tests.walk.Given as goal

abbrev pub invariant-loop-k : goal.invariant-loop-k
invariant-loop-k g l = g.S.Walks.owns l.shard l.pass
