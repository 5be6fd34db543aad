use Rattle.std.proofs.Common.{◌≡◌, ◌<◌, ◌++◌, drop, length, All}
use Rattle.pt_terms.specs.Elaboration.{each, give, ◌>>=◌}
use Rattle.pt_terms.specs.Theory.{truth}
use Rattle.pt_terms.proofs.elaborator.Elaborator.nodes_of.Given as goal

-- what is found so far, in front of what the rest gives, is what all gives
abbrev pub invariant-loop-a : goal.invariant-loop-a
invariant-loop-a l = record {
  told : (each truth (drop l.a-index l.arguments) >>= λ found. give (l.nodes.items ++ found)) l.self ≡ each truth l.fn.arguments l.fn.self;
  range : All (λ i. i < length l.self.formula) l.nodes.items;
}
