use Rattle.std.proofs.Common.{ℕ, subst, slice_index}
use Rattle.pt_handles.specs.Searching.{IsQueue}
use Rattle.pt_handles.proofs.Queues.{meets-step}
use Rattle.pt_handles.proofs.reaching.meet_all.Goals as goal

pub loop-state-preserved : goal.loop-state-preserved
loop-state-preserved c = record {
  queue = subst (λ (n : ℕ). IsQueue n c.meet.new.marks.items c.meet.new.queue.items) c.loop-state.invariant.queue.size c.in_ok-meet.ensures.queue;
  meets = meets-step (slice_index c.args.states.now) c.loop-state.state-index c.args.marks.now.items c.loop-state.marks.items c.meet.new.marks.items c.args.queue.now.items c.loop-state.queue.items c.meet.new.queue.items c.loop-state.invariant.meets c.in_ok-meet.ensures.meets;
}
