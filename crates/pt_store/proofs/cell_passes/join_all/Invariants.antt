use Rattle.std.proofs.Common.{◌≡◌, ◌++◌, List, length}
use Rattle.pt_cells.specs.Seeing.{Seen, IsOf}
use Rattle.pt_store.specs.Shared.{AtEach, lists_of}
use Rattle.pt_store.proofs.Uniting.{JoinedFrom}
use Rattle.pt_store.proofs.cell_passes.join_all.Given as goal

abbrev pub invariant-loop-other : goal.invariant-loop-other
invariant-loop-other l = record {
  kept : AtEach IsOf l.shards l.passes.items;
  rest : (behind : List Seen) × (l.others.items ++ behind ≡ l.fn.others.items);
  joined : JoinedFrom (length l.others.items) (lists_of l.fn.passes.items) (lists_of l.fn.others.items) (lists_of l.passes.items);
}

abbrev pub decreases-loop-other : goal.decreases-loop-other
decreases-loop-other l = length l.others.items
