use Rattle.std.proofs.Common.{length, slice_index}
use Rattle.pt_handles.specs.Searching.{IsQueue, Meets}
use Rattle.pt_handles.proofs.reaching.meet_all.Given as goal

abbrev pub invariant-loop-state : goal.invariant-loop-state
invariant-loop-state l = record {
  queue : IsQueue (length l.initial.marks.items) l.marks.items l.queue.items;
  meets : Meets (slice_index l.states) l.state-index l.initial.marks.items l.marks.items l.initial.queue.items l.queue.items;
}
