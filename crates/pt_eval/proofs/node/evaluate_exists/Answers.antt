use Rattle.std.proofs.Common.{ℕ, ◌≡◌, List, [], ◌∷◌, length, ap, sym, subst, ◌∙◌}
use Rattle.std.specs.Prelude.{IfErr}
use Rattle.pt_formula.specs.Truth.{Tree, Exists}
use Rattle.pt_formula.specs.Formulas.{children, node_at, node_tree, tree_of, variables_of}
use Rattle.pt_formula.specs.Costs.{track_of}
use Rattle.pt_eval.specs.Evaluating.{IsCheap}
use Rattle.pt_eval.specs.Outcomes.{outcome_in}
use Rattle.pt_eval.specs.Parts.{RefusesTree}
use Rattle.pt_eval.proofs.OutcomeLaws.{cheap-below, only-child, has-child, left-out, evaluated, unused-evaluated}
use Rattle.pt_eval.proofs.node.evaluate_exists.Goals as goal

pub returns-in_default-clause-ok : goal.returns-in_default-clause-ok
returns-in_default-clause-ok g c =
    let f = c.args.formula.now in
    let child : children (node_at f c.args.id) ≡ c.args.a ∷ [] = ap children c.requires.node in
    (left-out g.I.Pass.Codes.home (g.I.Pass.Codes.lists c.args.pass.now) f c.args.bound c.args.id c.args.a (outcome_in c.args.outcomes.now c.args.a) (has-child f c.args.id c.args.a [] child) (c.requires.outcomes c.args.a) c.in_default.ensures.none, tt)

pub returns-then-track-variables-clause-ok : goal.returns-then-track-variables-clause-ok
returns-then-track-variables-clause-ok g c =
    let f = c.args.formula.now in
    let home = g.I.Pass.Codes.home in
    let old = g.I.Pass.Codes.lists c.args.pass.now in
    let child : children (node_at f c.args.id) ≡ c.args.a ∷ [] = ap children c.requires.node in
    let tree : tree_of f c.args.id ≡ Exists c.args.v (tree_of f c.args.a) = c.trees_are_made_of_those_of_the_children.ensures f c.args.id c.is_formula.ensures ∙ ap (node_tree (tree_of f)) c.requires.node in
    let e = evaluated home old f c.args.bound c.args.a (outcome_in c.args.outcomes.now c.args.a) c.in-Some.body c.in-Some.ensures.some (c.requires.outcomes c.args.a) in
    let below = cheap-below f c.args.bound c.args.id (only-child f c.args.id c.args.a (IsCheap f c.args.bound) child e.cheap) in
    let vs = c.variables-variables.result.now in
    let unused : track_of c.args.v (variables_of f c.args.a) ≡ length (variables_of f c.args.a) =
    subst (λ (us : List ℕ). track_of c.args.v us ≡ length us) c.variables-variables.ensures.free (sym c.track.ensures.track ∙ c.if-track-variables.true) in
    (unused-evaluated c.truth_depends_on_free_variables_alone.ensures home old f c.args.bound c.args.id c.args.v c.args.a tree unused c.in-Some.body e below, tt)

pub settle-requires-clause-below : goal.settle-requires-clause-below
settle-requires-clause-below g c κs within =
    let f = c.args.formula.now in
    let home = g.I.Pass.Codes.home in
    let old = g.I.Pass.Codes.lists c.args.pass.now in
    let child : children (node_at f c.args.id) ≡ c.args.a ∷ [] = ap children c.requires.node in
    let e = evaluated home old f c.args.bound c.args.a (outcome_in c.args.outcomes.now c.args.a) c.in-Some.body c.in-Some.ensures.some (c.requires.outcomes c.args.a) in
    cheap-below f c.args.bound c.args.id (only-child f c.args.id c.args.a (IsCheap f c.args.bound) child e.cheap)

pub settle-requires-clause-err : goal.settle-requires-clause-err
settle-requires-clause-err g c κs within =
    let f = c.args.formula.now in
    let tree : tree_of f c.args.id ≡ Exists c.args.v (tree_of f c.args.a) = c.trees_are_made_of_those_of_the_children.ensures f c.args.id c.is_formula.ensures ∙ ap (node_tree (tree_of f)) c.requires.node in
    subst (λ (t : Tree). IfErr c.exists_solutions-made.result (RefusesTree t c.args.bound)) (sym tree) c.exists_solutions-made.ensures.err
