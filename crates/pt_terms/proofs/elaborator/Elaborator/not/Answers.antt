use Rattle.std.proofs.Common.{◌<◌, ap, length}
use Rattle.pt_formula.specs.declared.node.Node.TheVariants as node
use Rattle.pt_terms.proofs.BelowLemmas.{made_below, made_sorted, variables_below}
use Rattle.pt_terms.proofs.elaborator.Elaborator.not.Goals as goal

pub invariant_of-self : goal.invariant_of-self
invariant_of-self c =
    let a : c.args.a < length c.self.inside.formula = rw (ap (λ w. length w.formula) c.self.view_is) c.requires.a in
    record {
      below = made_below c.appended_nodes_keep_variables_below.ensures (node.Not c.args.a) c.args.at _ _ _ (length c.self.inside.sorts.items) c.is_formula.ensures c.is_formula-2.ensures c.self.invariant.below (variables_below _ (length c.self.inside.sorts.items) c.args.a c.self.invariant.below a) (tt {0}) c.not-made.ensures;
      sorted = made_sorted (node.Not c.args.a) c.args.at _ _ _ c.self.inside.sorts.items c.self.invariant.sorted (tt {0}) c.not-made.ensures;
      few = c.self.invariant.few;
    }
