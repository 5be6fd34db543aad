use Rattle.pt_cells.proofs.tests.goes_plain.Given as goal

abbrev pub invariant-loop : goal.invariant-loop
invariant-loop g l = record {
  one : g.S.Walks.owns l.shard l.one;
  other : g.S.Walks.owns l.shard l.other;
}
