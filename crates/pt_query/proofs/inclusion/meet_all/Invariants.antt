use Rattle.std.proofs.Common.{◌≤◌}
use Rattle.indexmap.specs.IndexSet.{index_set_len}
use Rattle.pt_query.specs.Pairs.{ArePairs}
use Rattle.pt_query.proofs.inclusion.meet_all.Given as goal

abbrev pub invariant-loop-letter : goal.invariant-loop-letter
invariant-loop-letter g l = record {
  pairs : ArePairs l.first l.second g.start l.pairs.keys l.place l.letter;
  grows : index_set_len l.fn.pairs ≤ index_set_len l.pairs;
  room : index_set_len l.pairs ≤ l.bound;
}

abbrev pub ghost-meet : goal.ghost-meet
ghost-meet g a = g.start
