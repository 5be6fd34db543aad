use Rattle.std.proofs.Common.{take, heap_items}
use Rattle.std.specs.BinaryHeap.{IsHeap}
use Rattle.std.specs.Ordering.{nat_cmp}
use Rattle.pt_eval.specs.Levels.{IsPushed}
use Rattle.pt_eval.proofs.reaching.push_all.Given as goal

abbrev pub invariant-loop-node : goal.invariant-loop-node
invariant-loop-node l = record {
  order : IsHeap nat_cmp (heap_items l.waiting);
  pushed : IsPushed (take l.node-index l.nodes) (heap_items l.initial.waiting) (heap_items l.waiting);
}
