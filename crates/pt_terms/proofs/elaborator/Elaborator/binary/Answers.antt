use Rattle.std.proofs.Common.{◌<◌, ap, length}
use Rattle.pt_formula.specs.Formulas.{op_node}
use Rattle.pt_terms.proofs.BelowLemmas.{made_below, made_sorted, op_below, op_binds, op_sorted}
use Rattle.pt_terms.proofs.elaborator.Elaborator.binary.Goals as goal

pub invariant_of-self : goal.invariant_of-self
invariant_of-self c =
    let a : c.args.a < length c.self.inside.formula = rw (ap (λ w. length w.formula) c.self.view_is) c.requires.a in
    let b : c.args.b < length c.self.inside.formula = rw (ap (λ w. length w.formula) c.self.view_is) c.requires.b in
    record {
      below = made_below c.appended_nodes_keep_variables_below.ensures (op_node c.args.op c.args.a c.args.b) c.args.at _ _ _ (length c.self.inside.sorts.items) c.is_formula.ensures c.is_formula-2.ensures c.self.invariant.below (op_below _ (length c.self.inside.sorts.items) c.args.op c.args.a c.args.b c.self.invariant.below a b) (op_binds (length c.self.inside.sorts.items) c.args.op c.args.a c.args.b) c.binary-made.ensures;
      sorted = made_sorted (op_node c.args.op c.args.a c.args.b) c.args.at _ _ _ c.self.inside.sorts.items c.self.invariant.sorted (op_sorted c.self.inside.sorts.items c.args.op c.args.a c.args.b) c.binary-made.ensures;
      few = c.self.invariant.few;
    }
