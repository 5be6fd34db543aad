use Rattle.std.proofs.Common.{◌-◌, ◌≤◌}
use Rattle.indexmap.specs.IndexSet.{index_set_len}
use Rattle.pt_query.specs.Pairs.{ArePairs, front_of}
use Rattle.pt_query.proofs.inclusion.reached_pairs.Given as goal

abbrev pub invariant-loop-place : goal.invariant-loop-place
invariant-loop-place l = record {
  pairs : ArePairs l.first l.second l.fn.start l.pairs.keys l.place 0;
  before : l.place ≤ index_set_len l.pairs;
  room : index_set_len l.pairs ≤ l.bound;
}

abbrev pub decreases-loop-place : goal.decreases-loop-place
decreases-loop-place l = l.bound - l.place

-- the pair that the search began with
abbrev pub ghost-meet_all : goal.ghost-meet_all
ghost-meet_all a = front_of a.pairs.now.keys
