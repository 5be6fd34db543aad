use Rattle.std.proofs.Common.{inl, ap, length, to_z, of_z, w64}
use Rattle.pt_formula.specs.declared.node.Node.TheVariants as node
use Rattle.pt_terms.specs.Sorts.{AreIntegers}
use Rattle.pt_terms.proofs.SortLemmas.{integers-below}
use Rattle.pt_terms.proofs.BelowLemmas.{made_below, made_sorted, made_grows, all_terms}
use Rattle.pt_terms.proofs.elaborator.Elaborator.atom.Goals as goal

pub invariant_of-self : goal.invariant_of-self
invariant_of-self c =
    let integers : AreIntegers c.self.inside.sorts.items c.args.terms.now = rw (ap (λ w. w.given) c.self.view_is) c.requires.sorts in
    record {
      below = made_below c.appended_nodes_keep_variables_below.ensures (node.Atom c.args.kind c.args.terms.now (to_z w64 (of_z w64 c.args.constant))) c.args.at _ _ _ (length c.self.inside.sorts.items) c.is_formula.ensures c.is_formula-2.ensures c.self.invariant.below (all_terms (length c.self.inside.sorts.items) c.args.terms.now (integers-below c.self.inside.sorts.items c.args.terms.now integers)) (tt {0}) c.atom-made.ensures;
      sorted = made_sorted (node.Atom c.args.kind c.args.terms.now (to_z w64 (of_z w64 c.args.constant))) c.args.at _ _ _ c.self.inside.sorts.items c.self.invariant.sorted (inl integers) c.atom-made.ensures;
      few = c.self.invariant.few;
    }

pub returns-clause-grows : goal.returns-clause-grows
returns-clause-grows c = rw (← c.self.view_is) (made_grows (node.Atom c.args.kind c.args.terms.now (to_z w64 (of_z w64 c.args.constant))) c.args.at _ _ _ c.self.inside.sorts.items c.atom-made.ensures)
