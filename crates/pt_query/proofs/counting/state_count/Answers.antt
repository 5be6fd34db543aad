use Rattle.std.proofs.Common.{sym, ◌∙◌, subst}
use Rattle.pt_sets.specs.Costs.{SameResidual, CostIs}
use Rattle.pt_handles.specs.Handles.{SetOfHandle}
use Rattle.pt_query.proofs.Residuals.{states-cost}
use Rattle.pt_query.proofs.counting.state_count.Goals as goal

pub returns : goal.returns
returns g c =
    let t = c.args.a.tracks in
    let X = SetOfHandle (g.P.Codes.lists c.args.pass.now) c.args.a in
    let e = c.in_ok-table.ensures in
    subst (CostIs (SameResidual t X) t) (sym (c.from.ensures ∙ c.states.ensures.states)) (states-cost t X c.in_ok-table.table c.in_ok-table._start c.states.ensures.valid e)
