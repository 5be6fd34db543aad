use Rattle.std.proofs.Common.{◌<◌, ap, length}
use Rattle.pt_terms.proofs.Nodes.{node_below}
use Rattle.pt_terms.proofs.elaborator.Elaborator.node.Goals as goal

pub returns-clause-range : goal.returns-clause-range
returns-clause-range c =
    let lt : c.args.i < length c.self.inside.formula = rw (ap (λ w. length w.formula) c.self.view_is) c.requires in
    rw (← c.self.view_is, c.node.ensures) (node_below c.self.inside.formula c.self.inside.sorts.items c.args.i c.is_formula.ensures c.self.invariant.below c.self.invariant.sorted lt)
