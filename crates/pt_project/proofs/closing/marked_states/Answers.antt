use Rattle.std.proofs.Common.{ℕ, ◌+◌, ◌∙◌, ap, sym, subst, arith}
use Rattle.std.specs.Global.{Vec}
use Rattle.pt_project.proofs.Marks.{FoundMarked, found-one, found-none}
use Rattle.pt_project.proofs.closing.marked_states.Goals.{then-marked+in_ok-push, else-marked}
use Rattle.pt_project.proofs.closing.marked_states.Goals as goal

pub loop-state-preserved : goal.loop-state-preserved
loop-state-preserved c =
    let marks = c.args.marks.now in
    elim c.if-marked.branch [
      | then-marked+in_ok-push w ↦
          found-one marks c.loop-state.state c.loop-state.states.items c.if-marked.states.items (ap (λ (v : Vec ℕ). v.items) w.states-is ∙ w.in_ok-push.ensures.items) w.if-marked.true c.loop-state.invariant
      | else-marked w ↦
          subst (λ (v : Vec ℕ). FoundMarked marks (c.loop-state.state + 1) v.items) (sym w.states-is) (found-none marks c.loop-state.state c.loop-state.states.items w.if-marked.false c.loop-state.invariant)
    ]

pub returns-clause-within : goal.returns-clause-within
returns-clause-within c x inside = let at = c.loop-state.invariant.within x inside in (omega (arith, at.0, c.loop-state.auto.state-end), at.1)
