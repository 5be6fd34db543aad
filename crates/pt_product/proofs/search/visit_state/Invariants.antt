use Rattle.std.proofs.Common.{◌+◌, ◌*◌, ◌^◌, ◌≤◌}
use Rattle.indexmap.specs.IndexSet.{index_set_len}
use Rattle.pt_product.specs.Pairs.{task}
use Rattle.pt_product.specs.Searching.{HasProgress}
use Rattle.pt_product.proofs.search.visit_state.Given as goal

abbrev pub invariant-loop-letter : goal.invariant-loop-letter
invariant-loop-letter l = record {
  progress : HasProgress (task l.op l.a l.b) l.bound l.search (l.state * 2 ^ l.a.tracks + l.letter);
  grows : index_set_len l.fn.search.pairs ≤ index_set_len l.search.pairs;
}
