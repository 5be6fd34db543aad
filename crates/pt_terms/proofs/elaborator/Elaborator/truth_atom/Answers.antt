use Rattle.std.proofs.Common.{inr, refl, ap, length}
use Rattle.pt_terms.specs.declared.meaning.Sort.TheVariants as sort
use Rattle.pt_terms.specs.Sorts.{HasSort, truth_atom}
use Rattle.pt_terms.proofs.SortLemmas.{has-below}
use Rattle.pt_terms.proofs.BelowLemmas.{made_below, made_sorted, made_grows}
use Rattle.pt_terms.proofs.elaborator.Elaborator.truth_atom.Goals as goal

pub invariant_of-self : goal.invariant_of-self
invariant_of-self c =
    let has : HasSort c.self.inside.sorts.items c.args.v sort.Bool = rw (ap (λ w. w.given) c.self.view_is) c.requires in
    record {
      below = made_below c.appended_nodes_keep_variables_below.ensures (truth_atom c.args.v) c.args.at _ _ _ (length c.self.inside.sorts.items) c.is_formula.ensures c.is_formula-2.ensures c.self.invariant.below (has-below c.self.inside.sorts.items c.args.v sort.Bool has, tt) (tt {0}) c.atom-made.ensures;
      sorted = made_sorted (truth_atom c.args.v) c.args.at _ _ _ c.self.inside.sorts.items c.self.invariant.sorted (inr (c.args.v, has, refl)) c.atom-made.ensures;
      few = c.self.invariant.few;
    }

pub returns-clause-grows : goal.returns-clause-grows
returns-clause-grows c = rw (← c.self.view_is) (made_grows (truth_atom c.args.v) c.args.at _ _ _ c.self.inside.sorts.items c.atom-made.ensures)
