use Rattle.std.proofs.Common.{◌≡◌, ◌<◌, ℕ, All, IfSome, drop, length}
use Rattle.pt_formula.specs.declared.node.Node.TheVariants as node
use Rattle.pt_terms.specs.Elaboration.{◌>>=◌, make}
use Rattle.pt_terms.specs.Theory.{conjunction, neighbours}
use Rattle.pt_terms.specs.Chains.{run, close}
use Rattle.pt_terms.specs.Gives.{Grows}
use Rattle.pt_terms.proofs.elaborator.Elaborator.equal_neighbours.Given as goal

-- the pairs that are left, after the node so far, give what all pairs give
abbrev pub invariant-loop-i : goal.invariant-loop-i
invariant-loop-i l = record {
  told : (run (λ (ab : ℕ × ℕ). make (node.Iff ab.0 ab.1) l.at) l.at l.so_far (neighbours l.before (drop l.i-index l.rest)) >>= close l.at) l.self
      ≡ conjunction (λ (ab : ℕ × ℕ). make (node.Iff ab.0 ab.1) l.fn.at) l.fn.at (neighbours l.fn.first l.fn.rest) l.fn.self;
  range : IfSome l.so_far (λ i. i < length l.self.formula);
  before : l.before < length l.self.formula;
  rest : All (λ i. i < length l.self.formula) l.rest;
  grows : Grows l.fn.self l.self;
}
