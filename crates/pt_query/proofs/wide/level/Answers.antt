use Rattle.std.proofs.Common.{List, Bool, ◌∙◌, subst}
use Rattle.pt_query.specs.Spreads.{IsImageTo}
use Rattle.pt_query.proofs.Levels.{level-begins, level-next}
use Rattle.pt_query.proofs.wide.level.Goals as goal

pub loop-init : goal.loop-init
loop-init c = level-begins c.args.table.now c.args.start c.in_ok-row.row.items c.requires (c.in_ok-row.ensures.count ∙ c.states.ensures.states) c.in_ok-row.ensures.none

pub loop-preserved : goal.loop-preserved
loop-preserved c =
    let a = c.args.table.now in
    let next = c.in_ok-row-2.row.items in
    level-next a c.states.ensures.valid c.args.start c.loop.counter c.loop.row.items next c.requires c.loop.invariant (subst (λ (row : List Bool). IsImageTo a row a.states next) c.as_slice.ensures.value c.in_ok-row-2.ensures)
