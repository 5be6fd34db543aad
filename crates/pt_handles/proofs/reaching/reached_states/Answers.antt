use Rattle.std.proofs.Common.{◌≡◌, ℕ, ◌<◌, ◌∙◌, ap, arith, rules, subst, length, slice_index}
use Rattle.std.proofs.lemmas.Grind.{common_steps}
use Rattle.pt_sets.specs.Automata.{next_of}
use Rattle.pt_handles.specs.Searching.{IsQueue}
use Rattle.pt_handles.proofs.Queues.{queue-short, search-step}
use Rattle.pt_handles.proofs.reaching.reached_states.Goals as goal

pub loop-next-smaller : goal.loop-next-smaller
loop-next-smaller c =
    let inside : c.loop-next.next < length c.loop-next.queue.items = search rules in
    let short = queue-short c.args.table.now.states c.loop-next.marks.items c.loop-next.queue.items c.loop-next.invariant.queue in
    omega (arith, short, inside)

pub loop-next-preserved : goal.loop-next-preserved
loop-next-preserved c =
    let inside : c.loop-next.next < length c.loop-next.queue.items = search rules in
    let state : c.index.result.now ≡ slice_index c.loop-next.queue.items c.loop-next.next = grind (arith, common_steps) in
    search-step c.args.table.now c.args.start c.loop-next.marks.items c.meet_all.new.marks.items c.loop-next.queue.items c.meet_all.new.queue.items c.loop-next.next c.successors-row.result.now c.loop-next.invariant inside
    c.successors-row.ensures.size (λ l letter. c.successors-row.ensures.cells l letter ∙ ap (λ (q : ℕ). next_of c.args.table.now q l) state)
    (subst (λ (n : ℕ). IsQueue n c.meet_all.new.marks.items c.meet_all.new.queue.items) c.loop-next.invariant.queue.size c.in_ok-meet_all.ensures.queue) c.in_ok-meet_all.ensures.meets
