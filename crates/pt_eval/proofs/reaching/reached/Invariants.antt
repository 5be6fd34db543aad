use Rattle.std.proofs.Common.{◌+◌, ◌*◌, length, reverse, heap_items}
use Rattle.std.specs.BinaryHeap.{IsHeap}
use Rattle.std.specs.Ordering.{nat_cmp}
use Rattle.pt_eval.proofs.ReachLaws.{IsSearch}
use Rattle.pt_eval.proofs.reaching.reached.Given as goal

abbrev pub invariant-loop-node : goal.invariant-loop-node
invariant-loop-node l = record {
  order : IsHeap nat_cmp (heap_items l.waiting);
  so_far : IsSearch l.formula l.roots l.end (heap_items l.waiting) (reverse l.nodes.items);
}

abbrev pub decreases-loop-node : goal.decreases-loop-node
decreases-loop-node l = l.end * 3 + length (heap_items l.waiting)
