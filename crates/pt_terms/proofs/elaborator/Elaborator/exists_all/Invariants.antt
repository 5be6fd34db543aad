use Rattle.std.proofs.Common.{◌≡◌, ◌<◌, ◌≤◌, All, take, map, reverse, length}
use Rattle.pt_terms.specs.Terms.{exists_all}
use Rattle.pt_terms.specs.Sorts.{HasSort}
use Rattle.pt_terms.specs.Gives.{Grows}
use Rattle.pt_terms.proofs.elaborator.Elaborator.exists_all.Given as goal

-- the variables that are left, over the node so far, give what all give
abbrev pub invariant-loop-left : goal.invariant-loop-left
invariant-loop-left l = record {
  told : exists_all l.at (reverse (map (λ x. (x.0.now, x.1, x.2)) (take l.left l.variables))) l.so_far l.self ≡ exists_all l.fn.at (reverse (map (λ x. (x.0.now, x.1, x.2)) l.fn.variables)) l.fn.a l.fn.self;
  within : l.left ≤ length l.variables;
  range : l.so_far < length l.self.formula;
  variables : All (λ x. HasSort l.self.given x.1 x.2) l.variables;
  grows : Grows l.fn.self l.self;
}

abbrev pub decreases-loop-left : goal.decreases-loop-left
decreases-loop-left l = l.left
