use Rattle.std.proofs.Common.{ℕ, ◌≡◌, [], ◌∷◌, refl, ap, ◌∙◌}
use Rattle.pt_handles.specs.Handles.{SetOfHandle}
use Rattle.pt_formula.specs.Truth.{Not}
use Rattle.pt_formula.specs.Formulas.{children, node_at, node_tree, tree_of}
use Rattle.pt_product.specs.Derived.{outside}
use Rattle.pt_eval.specs.Evaluating.{IsCheap}
use Rattle.pt_eval.specs.Outcomes.{outcome_in}
use Rattle.pt_eval.proofs.OutcomeLaws.{cheap-below, cheap-node, only-child, has-child, left-out, evaluated, full-where, table-evaluated, not-tracks, not-set, not-residuals, not-within, not-offers}
use Rattle.pt_eval.proofs.node.evaluate_not.Goals as goal

pub returns-in_default-clause-ok : goal.returns-in_default-clause-ok
returns-in_default-clause-ok g c =
    let f = c.args.formula.now in
    let child : children (node_at f c.args.id) ≡ c.args.a ∷ [] = ap children c.requires.node in
    (left-out g.I.Pass.Codes.home (g.I.Pass.Codes.lists c.args.pass.now) f c.args.bound c.args.id c.args.a (outcome_in c.args.outcomes.now c.args.a) (has-child f c.args.id c.args.a [] child) (c.requires.outcomes c.args.a) c.in_default.ensures.none, tt)

pub returns-in-Ok-clause-ok : goal.returns-in-Ok-clause-ok
returns-in-Ok-clause-ok g c =
    let f = c.args.formula.now in
    let home = g.I.Pass.Codes.home in
    let old = g.I.Pass.Codes.lists c.args.pass.now in
    let child : children (node_at f c.args.id) ≡ c.args.a ∷ [] = ap children c.requires.node in
    let tree : tree_of f c.args.id ≡ Not (tree_of f c.args.a) = c.trees_are_made_of_those_of_the_children.ensures f c.args.id c.is_formula.ensures ∙ ap (node_tree (tree_of f)) c.requires.node in
    let e = evaluated home old f c.args.bound c.args.a (outcome_in c.args.outcomes.now c.args.a) c.in-Some.child c.in-Some.ensures.some (c.requires.outcomes c.args.a) in
    let below = cheap-below f c.args.bound c.args.id (only-child f c.args.id c.args.a (IsCheap f c.args.bound) child e.cheap) in (
      table-evaluated home (g.I.Pass.Codes.lists c.complement.new.pass) f c.args.bound c.args.id c.in-Some.child.tracks (outside (SetOfHandle old c.in-Some.child)) c.in-Ok.outside below
          (not-within home old f c.args.bound c.args.id c.args.a tree c.in-Some.child e) (not-residuals home old f c.args.bound c.args.id c.args.a tree c.in-Some.child e) (not-tracks home old f c.args.bound c.args.id c.args.a tree c.in-Some.child e) (not-set home old f c.args.bound c.args.id c.args.a tree c.in-Some.child e) c.in-Ok.ensures.ok,
      tt,
    )

pub returns-in-Ok-clause-offers : goal.returns-in-Ok-clause-offers
returns-in-Ok-clause-offers g c =
    let f = c.args.formula.now in
    let home = g.I.Pass.Codes.home in
    let old = g.I.Pass.Codes.lists c.args.pass.now in
    let tree : tree_of f c.args.id ≡ Not (tree_of f c.args.a) = c.trees_are_made_of_those_of_the_children.ensures f c.args.id c.is_formula.ensures ∙ ap (node_tree (tree_of f)) c.requires.node in
    let e = evaluated home old f c.args.bound c.args.a (outcome_in c.args.outcomes.now c.args.a) c.in-Some.child c.in-Some.ensures.some (c.requires.outcomes c.args.a) in
    not-offers home old f c.args.bound c.args.id c.args.a tree c.in-Some.child e (g.I.Pass.Codes.offered c.args.pass.now) (g.I.Pass.Codes.offered c.complement.new.pass) c.complement.ensures.offers

pub returns-in-Err-clause-err : goal.returns-in-Err-clause-err
returns-in-Err-clause-err g c =
    let f = c.args.formula.now in
    let home = g.I.Pass.Codes.home in
    let old = g.I.Pass.Codes.lists c.args.pass.now in
    let child : children (node_at f c.args.id) ≡ c.args.a ∷ [] = ap children c.requires.node in
    let tree : tree_of f c.args.id ≡ Not (tree_of f c.args.a) = c.trees_are_made_of_those_of_the_children.ensures f c.args.id c.is_formula.ensures ∙ ap (node_tree (tree_of f)) c.requires.node in
    let e = evaluated home old f c.args.bound c.args.a (outcome_in c.args.outcomes.now c.args.a) c.in-Some.child c.in-Some.ensures.some (c.requires.outcomes c.args.a) in
    let below = cheap-below f c.args.bound c.args.id (only-child f c.args.id c.args.a (IsCheap f c.args.bound) child e.cheap) in
    full-where (λ (i : ℕ). c.args.id ≡ i) f c.args.bound c.args.id refl (cheap-node f c.args.bound c.args.id below (not-within home old f c.args.bound c.args.id c.args.a tree c.in-Some.child e)) home (g.I.Interner.limit_of c.args.store.now) (g.I.Pass.Codes.lists c.complement.new.pass)
    c.in-Some.child.tracks (outside (SetOfHandle old c.in-Some.child)) (not-tracks home old f c.args.bound c.args.id c.args.a tree c.in-Some.child e) (not-set home old f c.args.bound c.args.id c.args.a tree c.in-Some.child e) c.in-Err.fault c.in-Err.ensures.full

pub returns-in-Err-clause-offers : goal.returns-in-Err-clause-offers
returns-in-Err-clause-offers g c =
    let f = c.args.formula.now in
    let home = g.I.Pass.Codes.home in
    let old = g.I.Pass.Codes.lists c.args.pass.now in
    let tree : tree_of f c.args.id ≡ Not (tree_of f c.args.a) = c.trees_are_made_of_those_of_the_children.ensures f c.args.id c.is_formula.ensures ∙ ap (node_tree (tree_of f)) c.requires.node in
    let e = evaluated home old f c.args.bound c.args.a (outcome_in c.args.outcomes.now c.args.a) c.in-Some.child c.in-Some.ensures.some (c.requires.outcomes c.args.a) in
    not-offers home old f c.args.bound c.args.id c.args.a tree c.in-Some.child e (g.I.Pass.Codes.offered c.args.pass.now) (g.I.Pass.Codes.offered c.complement.new.pass) c.complement.ensures.offers
