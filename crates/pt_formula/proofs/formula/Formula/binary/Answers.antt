use Rattle.std.proofs.Common.{◌≡◌, ap, sym, ◌∙◌}
use Rattle.pt_formula.specs.Truth.{free_variables, union}
use Rattle.pt_formula.specs.Formulas.{node_tree, tree_of, variables_of}
use Rattle.pt_formula.specs.Entries.{shown}
use Rattle.pt_formula.proofs.Sorted.{op_variables}
use Rattle.pt_formula.proofs.formula.Formula.binary.Goals as goal

pub append-requires-clause-variables : goal.append-requires-clause-variables
append-requires-clause-variables c =
    let united : c.in_ok-variables.variables ≡ union c.variables-left.result.now c.variables-right.result.now = c.in_ok-variables.ensures in
    let t = tree_of (shown c.self.inside.entries.items) in
    united
    ∙ ap (λ vs. union vs c.variables-right.result.now) c.variables-left.ensures.free
    ∙ ap (union (variables_of c.args.self.now c.args.a)) c.variables-right.ensures.free
    ∙ ap (λ f. union (variables_of f c.args.a) (variables_of f c.args.b)) (sym c.self.view_is)
    ∙ sym (op_variables t c.args.op c.args.a c.args.b)
    ∙ ap (λ n. free_variables (node_tree t n)) (sym c.joined.ensures)
