use Rattle.std.proofs.Common.{◌≡◌, ◌+◌, ◌<◌, [], ◌∷◌, nat_eq, ap, sym, ◌∙◌, arith}
use Rattle.std.specs.HashMap.{get}
use Rattle.pt_formula.specs.Formulas.{children, node_at}
use Rattle.pt_eval.specs.Levels.{listed}
use Rattle.pt_eval.proofs.LevelLaws.{one-level, two-levels}
use Rattle.pt_eval.proofs.levels.level.Goals as goal

pub overflow_add-result : goal.overflow_add-result
overflow_add-result c =
    let is : children (node_at c.args.formula.now c.args.node) ≡ c.in-One.a ∷ [] = sym (ap children c.node.ensures) ∙ sym c.children_of.ensures ∙ ap listed c.in-One.is in
    let low : c.known_level.result < c.args.node = (one-level c.args.formula.now c.is_formula.ensures c.args.node (get nat_eq c.args.levels.now) c.requires.children c.in-One.a c.known_level.result is c.known_level.ensures).1 in
    omega (arith, low, c.requires.inside, c.is_formula.ensures.few_nodes)

pub overflow_add-result-in-Two : goal.overflow_add-result-in-Two
overflow_add-result-in-Two c =
    let is : children (node_at c.args.formula.now c.args.node) ≡ c.in-Two.a ∷ c.in-Two.b ∷ [] = sym (ap children c.node.ensures) ∙ sym c.children_of.ensures ∙ ap listed c.in-Two.is in
    let (value, low_a, low_b) = two-levels c.args.formula.now c.is_formula.ensures c.args.node (get nat_eq c.args.levels.now) c.requires.children c.in-Two.a c.in-Two.b c.known_level-in-Two.result c.known_level-in-Two-2.result is c.known_level-in-Two.ensures c.known_level-in-Two-2.ensures in
    omega (arith, low_a, low_b, c.max.ensures, c.requires.inside, c.is_formula.ensures.few_nodes)

pub returns-in-One : goal.returns-in-One
returns-in-One c =
    let is : children (node_at c.args.formula.now c.args.node) ≡ c.in-One.a ∷ [] = sym (ap children c.node.ensures) ∙ sym c.children_of.ensures ∙ ap listed c.in-One.is in
    sym (one-level c.args.formula.now c.is_formula.ensures c.args.node (get nat_eq c.args.levels.now) c.requires.children c.in-One.a c.known_level.result is c.known_level.ensures).0

pub returns-in-Two : goal.returns-in-Two
returns-in-Two c =
    let is : children (node_at c.args.formula.now c.args.node) ≡ c.in-Two.a ∷ c.in-Two.b ∷ [] = sym (ap children c.node.ensures) ∙ sym c.children_of.ensures ∙ ap listed c.in-Two.is in
    let both = two-levels c.args.formula.now c.is_formula.ensures c.args.node (get nat_eq c.args.levels.now) c.requires.children c.in-Two.a c.in-Two.b c.known_level-in-Two.result c.known_level-in-Two-2.result is c.known_level-in-Two.ensures c.known_level-in-Two-2.ensures in
    ap (λ n. n + 1) c.max.ensures ∙ sym both.0
