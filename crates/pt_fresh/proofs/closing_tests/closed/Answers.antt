use Rattle.std.proofs.Common.{ℕ, List, [], ◌∷◌, sym, ◌∙◌, subst, arith}
use Rattle.pt_fresh.specs.Making.{NodeList}
use Rattle.pt_fresh.specs.Sides.{IsSide}
use Rattle.pt_fresh.proofs.closing_tests.closed.Goals as goal

-- the first definition stays one when the nodes of the second are added
pub close-requires-clause-side : goal.close-requires-clause-side
close-requires-clause-side c =
    let f : NodeList = c.divide.new.formula in
    let g : NodeList = c.remainder.new.formula in
    let i : ℕ = c.in_ok-first.first in
    let alone : List (ℕ × ℕ) = (1, i) ∷ [] in
    let before : IsSide f alone = record {
      variables = (tt, tt);
      nodes = (c.in_ok-first.ensures.range, tt);
      definite = (c.in_ok-first.ensures.definite, tt);
      earlier = (tt, tt);
    } in
    let more = c.remainder.ensures.grows.nodes in
    let after : IsSide g alone =
    subst (λ (h : NodeList). IsSide h alone) (sym more.1) (c.added_nodes_change_no_definition.ensures.side f more.0 alone c.is_formula.ensures before) in
    record {
      variables = ((omega arith, tt), (tt, tt));
      nodes = (after.nodes.0, (c.in_ok-second.ensures.range, tt));
      definite = (after.definite.0, (c.in_ok-second.ensures.definite, tt));
      earlier = ((sym c.is_free.ensures ∙ c.if-is_free.false, tt), (tt, tt));
    }
