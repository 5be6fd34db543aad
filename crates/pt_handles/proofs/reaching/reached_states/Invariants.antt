use Rattle.std.proofs.Common.{◌-◌}
use Rattle.pt_handles.proofs.Queues.{IsSearch}
use Rattle.pt_handles.proofs.reaching.reached_states.Given as goal

abbrev pub invariant-loop-next : goal.invariant-loop-next
invariant-loop-next l = IsSearch l.table l.start l.marks.items l.queue.items l.next

abbrev pub decreases-loop-next : goal.decreases-loop-next
decreases-loop-next l = l.table.states - l.next
