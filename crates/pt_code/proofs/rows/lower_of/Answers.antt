use Rattle.std.proofs.Common.{refl, ap, ◌∙◌}
use Rattle.std.specs.Ordering.{ordering_reverse}
use Rattle.pt_code.specs.Component.{component}
use Rattle.pt_code.specs.Parts.{row_of}
use Rattle.pt_code.proofs.Comparing.{cmp-itself, cmp-back}
use Rattle.pt_code.proofs.rows.lower_of.Goals as goal

pub returns-in-Greater-clause-low : goal.returns-in-Greater-clause-low
returns-in-Greater-clause-low c = λ over.
    let p = component c.args.piece.now in
    let back = cmp-back (row_of p c.args.low) (row_of p c.args.state) c.compare_outputs.result c.compare_outputs.ensures ∙ ap ordering_reverse c.in-Greater.is in
    cc (over, back)

pub returns-in-Greater-clause-state : goal.returns-in-Greater-clause-state
returns-in-Greater-clause-state c = λ over. let p = component c.args.piece.now in cc (over, cmp-itself (row_of p c.args.state) (row_of p c.args.state) refl)

pub returns-in_default-clause-low : goal.returns-in_default-clause-low
returns-in_default-clause-low c = λ over. let p = component c.args.piece.now in cc (over, cmp-itself (row_of p c.args.low) (row_of p c.args.low) refl)

pub returns-in_default-clause-state : goal.returns-in_default-clause-state
returns-in_default-clause-state c = λ over. c.in_default.not-Greater (c.compare_outputs.ensures ∙ over)
