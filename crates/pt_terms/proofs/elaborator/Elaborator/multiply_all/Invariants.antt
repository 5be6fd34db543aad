use Rattle.std.proofs.Common.{◌≡◌, drop, map}
use Rattle.pt_terms.specs.Theory.{products}
use Rattle.pt_terms.specs.Sound.{IsFormOver}
use Rattle.pt_terms.proofs.elaborator.Elaborator.multiply_all.Given as goal

-- what is left, from the form so far, gives what all gives from the first
abbrev pub invariant-loop-f : goal.invariant-loop-f
invariant-loop-f l = record {
  told : products l.at l.so_far (map (λ f. f.now) (drop l.f-index l.rest)) l.self ≡ products l.fn.at l.fn.first (map (λ f. f.now) l.fn.rest) l.fn.self;
  range : IsFormOver l.self.given l.so_far;
}
