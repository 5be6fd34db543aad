use Rattle.std.proofs.Common.{◌≡◌, ℕ, List, sym, subst, set, true, false, length, slice_index_or, arith}
use Rattle.std.proofs.lemmas.Grind.{common_steps}
use Rattle.pt_handles.specs.Searching.{IsQueue, Meets}
use Rattle.pt_handles.proofs.Queues.{queue-more, meets-more}
use Rattle.pt_handles.proofs.reaching.meet.Goals as goal

pub returns-clause-queue : goal.returns-clause-queue
returns-clause-queue c =
    let marks = c.args.marks.now.items in
    let unmarked : slice_index_or marks c.args.state false ≡ false = grind (arith, common_steps) in
    subst (λ (after : List ℕ). IsQueue (length marks) (set marks c.args.state true) after) (sym c.in_ok-push.ensures.items) (queue-more (length marks) marks c.args.queue.now.items c.args.state c.requires.queue c.requires.state unmarked)

pub returns-clause-meets : goal.returns-clause-meets
returns-clause-meets c =
    let marks = c.args.marks.now.items in
    let unmarked : slice_index_or marks c.args.state false ≡ false = grind (arith, common_steps) in
    subst (λ (after : List ℕ). Meets (λ j. c.args.state) 1 marks (set marks c.args.state true) c.args.queue.now.items after) (sym c.in_ok-push.ensures.items) (meets-more (length marks) marks c.args.queue.now.items c.args.state c.requires.queue c.requires.state unmarked)
