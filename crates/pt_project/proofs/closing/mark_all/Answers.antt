use Rattle.std.proofs.Common.{ℕ, ◌<◌, List, take, get_or, length, subst, sym, rules}
use Rattle.std.proofs.lemmas.List.{take_more}
use Rattle.pt_project.specs.Closing.{MarksMore}
use Rattle.pt_project.proofs.Orders.{in-get}
use Rattle.pt_project.proofs.Marks.{marks-step}
use Rattle.pt_project.proofs.closing.mark_all.Goals as goal

pub mark-requires : goal.mark-requires
mark-requires c =
    let within : c.loop-state.state-index < length c.args.states.now = search rules in
    let below = c.requires (get_or c.args.states.now c.loop-state.state-index 0) (in-get c.args.states.now c.loop-state.state-index within) in
    subst (λ (n : ℕ). get_or c.args.states.now c.loop-state.state-index 0 < n) (sym c.loop-state.invariant.count) below

pub loop-state-preserved : goal.loop-state-preserved
loop-state-preserved c =
    let within : c.loop-state.state-index < length c.args.states.now = search rules in
    let i = get_or c.args.states.now c.loop-state.state-index 0 in
    subst (λ (F : List ℕ). MarksMore F c.args.marks.now.items c.mark.new.marks.items c.args.open.now.items c.mark.new.open.items) (sym (take_more c.args.states.now c.loop-state.state-index 0 within))
    (marks-step (take c.loop-state.state-index c.args.states.now) i c.args.marks.now.items c.loop-state.marks.items c.mark.new.marks.items c.args.open.now.items c.loop-state.open.items c.mark.new.open.items c.loop-state.invariant c.in_ok-mark.ensures)
