use Rattle.std.proofs.Common.{◌≡◌, ◌++◌, drop, map, All}
use Rattle.pt_terms.specs.Elaboration.{each, give, ◌>>=◌}
use Rattle.pt_terms.specs.Theory.{integer}
use Rattle.pt_terms.specs.Sound.{IsFormOver}
use Rattle.pt_terms.proofs.elaborator.Elaborator.integers.Given as goal

-- what is found so far, in front of what the rest gives, is what all gives
abbrev pub invariant-loop-a : goal.invariant-loop-a
invariant-loop-a l = record {
  told : (each integer (drop l.a-index l.arguments) >>= λ found. give (map (λ f. f.now) l.forms.items ++ found)) l.self ≡ each integer l.fn.arguments l.fn.self;
  range : All (λ f. IsFormOver l.self.given f.now) l.forms.items;
}
