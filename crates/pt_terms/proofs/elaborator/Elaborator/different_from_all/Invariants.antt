use Rattle.std.proofs.Common.{◌≡◌, ◌<◌, All, IfSome, drop, map, length}
use Rattle.pt_terms.specs.Theory.{different}
use Rattle.pt_terms.specs.Chains.{run}
use Rattle.pt_terms.specs.Gives.{Grows}
use Rattle.pt_terms.specs.Sound.{IsFormOver}
use Rattle.pt_terms.proofs.elaborator.Elaborator.different_from_all.Given as goal

-- the pairs that are left, after the node so far, give what all pairs give
abbrev pub invariant-loop-f : goal.invariant-loop-f
invariant-loop-f l = record {
  told : run (different l.at) l.at l.so_far (map (λ g. (l.first, g)) (map (λ f. f.now) (drop l.f-index l.rest))) l.self
      ≡ run (different l.fn.at) l.fn.at l.fn.so_far (map (λ g. (l.fn.first, g)) (map (λ f. f.now) l.fn.rest)) l.fn.self;
  range : IfSome l.so_far (λ i. i < length l.self.formula);
  first : IsFormOver l.self.given l.first;
  rest : All (λ f. IsFormOver l.self.given f.now) l.rest;
  grows : Grows l.fn.self l.self;
}
