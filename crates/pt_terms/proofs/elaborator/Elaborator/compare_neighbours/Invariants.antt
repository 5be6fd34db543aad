use Rattle.std.proofs.Common.{◌≡◌, ◌<◌, All, IfSome, drop, map, length}
use Rattle.pt_terms.specs.Elaboration.{◌>>=◌}
use Rattle.pt_terms.specs.Theory.{compare, conjunction, neighbours}
use Rattle.pt_terms.specs.Chains.{run, close}
use Rattle.pt_terms.specs.Gives.{Grows}
use Rattle.pt_terms.specs.Sound.{IsFormOver}
use Rattle.pt_terms.proofs.elaborator.Elaborator.compare_neighbours.Given as goal

-- the pairs that are left, after the node so far, give what all pairs give
abbrev pub invariant-loop-f : goal.invariant-loop-f
invariant-loop-f l = record {
  told : (run (compare l.at l.relation) l.at l.so_far (neighbours l.before (map (λ f. f.now) (drop l.f-index l.rest))) >>= close l.at) l.self
      ≡ conjunction (compare l.fn.at l.fn.relation) l.fn.at (neighbours l.fn.first (map (λ f. f.now) l.fn.rest)) l.fn.self;
  range : IfSome l.so_far (λ i. i < length l.self.formula);
  before : IsFormOver l.self.given l.before;
  rest : All (λ f. IsFormOver l.self.given f.now) l.rest;
  grows : Grows l.fn.self l.self;
}
