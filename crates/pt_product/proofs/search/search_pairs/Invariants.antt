use Rattle.std.proofs.Common.{◌-◌, ◌*◌, ◌^◌, ◌≤◌}
use Rattle.indexmap.specs.IndexSet.{index_set_len}
use Rattle.pt_product.specs.Pairs.{task}
use Rattle.pt_product.specs.Searching.{HasProgress}
use Rattle.pt_product.proofs.search.search_pairs.Given as goal

abbrev pub invariant-loop-state : goal.invariant-loop-state
invariant-loop-state l = record {
  progress : HasProgress (task l.op l.a l.b) l.bound l.search (l.state * 2 ^ l.a.tracks);
  before : l.state ≤ index_set_len l.search.pairs;
}

abbrev pub decreases-loop-state : goal.decreases-loop-state
decreases-loop-state l = l.bound - l.state
