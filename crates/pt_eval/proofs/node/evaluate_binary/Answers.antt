use Rattle.std.proofs.Common.{◌≡◌, [], ◌∷◌, ap, ◌∙◌}
use Rattle.pt_formula.specs.Formulas.{children, node_at}
use Rattle.pt_eval.specs.Evaluating.{IsCheap}
use Rattle.pt_eval.specs.Outcomes.{outcome_in}
use Rattle.pt_eval.proofs.OutcomeLaws.{cheap-below, two-children, has-child, has-second, op-children, left-out, evaluated}
use Rattle.pt_eval.proofs.node.evaluate_binary.Goals as goal

pub returns-in_default-clause-ok : goal.returns-in_default-clause-ok
returns-in_default-clause-ok g c =
    let f = c.args.formula.now in
    let both : children (node_at f c.args.id) ≡ c.args.a ∷ c.args.b ∷ [] = ap children c.requires.node ∙ op-children c.args.op c.args.a c.args.b in
    (left-out g.I.Pass.Codes.home (g.I.Pass.Codes.lists c.args.pass.now) f c.args.bound c.args.id c.args.a (outcome_in c.args.outcomes.now c.args.a) (has-child f c.args.id c.args.a (c.args.b ∷ []) both) (c.requires.outcomes c.args.a) c.in_default.ensures.none, tt)

pub returns-in_default-handle_of-clause-ok : goal.returns-in_default-handle_of-clause-ok
returns-in_default-handle_of-clause-ok g c =
    let f = c.args.formula.now in
    let both : children (node_at f c.args.id) ≡ c.args.a ∷ c.args.b ∷ [] = ap children c.requires.node ∙ op-children c.args.op c.args.a c.args.b in
    (left-out g.I.Pass.Codes.home (g.I.Pass.Codes.lists c.args.pass.now) f c.args.bound c.args.id c.args.b (outcome_in c.args.outcomes.now c.args.b) (has-second f c.args.id c.args.a c.args.b both) (c.requires.outcomes c.args.b) c.in_default-handle_of.ensures.none, tt)

pub settle-requires-clause-below : goal.settle-requires-clause-below
settle-requires-clause-below g c κs within =
    let f = c.args.formula.now in
    let home = g.I.Pass.Codes.home in
    let old = g.I.Pass.Codes.lists c.args.pass.now in
    let both : children (node_at f c.args.id) ≡ c.args.a ∷ c.args.b ∷ [] = ap children c.requires.node ∙ op-children c.args.op c.args.a c.args.b in
    let left = evaluated home old f c.args.bound c.args.a (outcome_in c.args.outcomes.now c.args.a) c.in-Some.left c.in-Some.ensures.some (c.requires.outcomes c.args.a) in
    let right = evaluated home old f c.args.bound c.args.b (outcome_in c.args.outcomes.now c.args.b) c.in-Some-handle_of.right c.in-Some-handle_of.ensures.some (c.requires.outcomes c.args.b) in
    cheap-below f c.args.bound c.args.id (two-children f c.args.id c.args.a c.args.b (IsCheap f c.args.bound) both left.cheap right.cheap)
