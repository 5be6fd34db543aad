use Rattle.std.proofs.Common.{heap_items}
use Rattle.pt_eval.proofs.ReachLaws.{push-none, push-next}
use Rattle.pt_eval.proofs.reaching.push_all.Goals as goal

pub loop-node-init : goal.loop-node-init
loop-node-init c = record { order = c.requires; pushed = push-none (heap_items c.args.waiting.now) }

pub loop-node-preserved : goal.loop-node-preserved
loop-node-preserved c = record {
  order = c.in_ok-push.ensures.heap_order c.loop-node.invariant.order;
  pushed = push-next c.args.nodes.now c.loop-node.node-index (heap_items c.args.waiting.now) (heap_items c.loop-node.waiting) (heap_items c.push.new.self) c.loop-node-test.true c.in_ok-push.ensures.permutation c.loop-node.invariant.pushed;
}
