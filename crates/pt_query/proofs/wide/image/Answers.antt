use Rattle.std.proofs.Common.{◌+◌, Bool, sym, subst}
use Rattle.std.specs.Global.{Vec}
use Rattle.pt_query.specs.Spreads.{IsImageTo}
use Rattle.pt_query.proofs.Levels.{image-step, image-skip}
use Rattle.pt_query.proofs.wide.image.Goals.{then-row-state, else-row-state}
use Rattle.pt_query.proofs.wide.image.Goals as goal

pub loop-state-preserved : goal.loop-state-preserved
loop-state-preserved c =
    let a = c.args.table.now in
    let row = c.args.row.now in
    let k = c.loop-state.state in
    elim c.if-row-state.branch [
      | then-row-state w ↦ subst (λ (v : Vec Bool). IsImageTo a row (k + 1) v.items) (sym w.next-is) (image-step a row k c.loop-state.next.items w.mark_successors.new.marks.items c.loop-state.invariant w.if-row-state.true w.mark_successors.ensures)
      | else-row-state w ↦ subst (λ (v : Vec Bool). IsImageTo a row (k + 1) v.items) (sym w.next-is) (image-skip a row k c.loop-state.next.items c.loop-state.invariant (λ yes. let no = w.if-row-state.false in cc))
    ]
