use Rattle.std.proofs.Common.{length}
use Rattle.pt_formula.specs.Formulas.{truth_node}
use Rattle.pt_terms.proofs.BelowLemmas.{made_below, made_sorted, made_grows, truth_below, truth_binds, truth_sorted}
use Rattle.pt_terms.proofs.elaborator.Elaborator.truth.Goals as goal

pub invariant_of-self : goal.invariant_of-self
invariant_of-self c = record {
  below = made_below c.appended_nodes_keep_variables_below.ensures (truth_node c.args.value) c.args.at _ _ _ (length c.self.inside.sorts.items) c.is_formula.ensures c.is_formula-2.ensures c.self.invariant.below (truth_below _ (length c.self.inside.sorts.items) c.args.value) (truth_binds (length c.self.inside.sorts.items) c.args.value) c.truth-made.ensures;
  sorted = made_sorted (truth_node c.args.value) c.args.at _ _ _ c.self.inside.sorts.items c.self.invariant.sorted (truth_sorted c.self.inside.sorts.items c.args.value) c.truth-made.ensures;
  few = c.self.invariant.few;
}

pub returns-clause-grows : goal.returns-clause-grows
returns-clause-grows c = rw (← c.self.view_is) (made_grows (truth_node c.args.value) c.args.at _ _ _ c.self.inside.sorts.items c.truth-made.ensures)
