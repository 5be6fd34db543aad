use Rattle.std.proofs.Common.{◌<◌, ap, length}
use Rattle.pt_terms.proofs.BelowLemmas.{made_exists_below, made_exists_sorted}
use Rattle.pt_terms.proofs.elaborator.Elaborator.exists.Goals as goal

pub invariant_of-self : goal.invariant_of-self
invariant_of-self c =
    let a : c.args.a < length c.self.inside.formula = rw (ap (λ w. length w.formula) c.self.view_is) c.requires.a in
    let v : c.args.v < length c.self.inside.sorts.items = rw (ap (λ w. length w.given) c.self.view_is) c.requires.v in
    record {
      below = made_exists_below c.appended_nodes_keep_variables_below.ensures c.args.v c.args.a c.args.at _ _ _ (length c.self.inside.sorts.items) c.is_formula.ensures c.is_formula-2.ensures c.self.invariant.below a v c.exists-made.ensures;
      sorted = made_exists_sorted c.args.v c.args.a c.args.at _ _ _ c.self.inside.sorts.items c.self.invariant.sorted c.exists-made.ensures;
      few = c.self.invariant.few;
    }
