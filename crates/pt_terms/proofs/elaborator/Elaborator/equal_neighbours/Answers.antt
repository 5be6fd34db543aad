use Rattle.std.proofs.Common.{ℕ}
use Rattle.pt_formula.specs.declared.node.Node.TheVariants as node
use Rattle.pt_terms.specs.Theory.{neighbours}
use Rattle.pt_terms.specs.Elaboration.{make}
use Rattle.pt_terms.proofs.Chaining.{conjunction_run}
use Rattle.pt_terms.proofs.BelowLemmas.{grows_same}
use Rattle.pt_terms.proofs.elaborator.Elaborator.equal_neighbours.Goals as goal

pub loop-i-init : goal.loop-i-init
loop-i-init c = record {
  told = conjunction_run {A = ℕ × ℕ} (λ (ab : ℕ × ℕ). make (node.Iff ab.0 ab.1) c.args.at) c.args.at (neighbours c.args.first c.args.rest.now) c.args.self.now;
  range = tt {0};
  before = c.requires.first;
  rest = c.requires.rest;
  grows = grows_same c.args.self.now;
}
