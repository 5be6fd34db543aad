use Rattle.std.proofs.Common.{◌≡◌, ◌<◌, All, drop, length}
use Rattle.pt_formula.specs.Formulas.{op_node}
use Rattle.pt_terms.specs.Theory.{join}
use Rattle.pt_terms.specs.Gives.{Grows}
use Rattle.pt_terms.proofs.elaborator.Elaborator.join.Given as goal

-- joining what is left to the node so far gives what joining all gives
abbrev pub invariant-loop-i : goal.invariant-loop-i
invariant-loop-i l = record {
  told : join (op_node l.op) l.at l.so_far (drop l.i-index l.rest) l.self ≡ join (op_node l.fn.op) l.fn.at l.fn.first l.fn.rest l.fn.self;
  range : l.so_far < length l.self.formula;
  rest : All (λ i. i < length l.self.formula) l.rest;
  grows : Grows l.fn.self l.self;
}
