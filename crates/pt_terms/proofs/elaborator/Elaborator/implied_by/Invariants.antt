use Rattle.std.proofs.Common.{◌≡◌, ◌<◌, ◌≤◌, All, drop, length, Ok}
use Rattle.pt_terms.specs.Chains.{implied_by}
use Rattle.pt_terms.specs.Gives.{Grows}
use Rattle.pt_terms.proofs.elaborator.Elaborator.implied_by.Given as goal

-- the nodes from here on give the node so far
abbrev pub invariant-loop-left : goal.invariant-loop-left
invariant-loop-left l = record {
  told : implied_by l.at (drop l.left l.nodes) l.fn.last l.fn.self ≡ Ok (l.so_far, l.self);
  within : l.left ≤ length l.nodes;
  range : l.so_far < length l.self.formula;
  nodes : All (λ i. i < length l.self.formula) l.nodes;
  grows : Grows l.fn.self l.self;
}

abbrev pub decreases-loop-left : goal.decreases-loop-left
decreases-loop-left l = l.left
