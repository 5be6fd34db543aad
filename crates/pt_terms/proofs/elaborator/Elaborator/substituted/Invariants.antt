use Rattle.std.proofs.Common.{◌≡◌, drop, map}
use Rattle.pt_terms.specs.Theory.{substituted}
use Rattle.pt_terms.specs.Sound.{IsFormOver}
use Rattle.pt_terms.proofs.elaborator.Elaborator.substituted.Given as goal

-- what is left, behind the form so far, gives what all gives behind the first
abbrev pub invariant-loop-t : goal.invariant-loop-t
invariant-loop-t l = record {
  told : substituted l.at (map (λ r. (r.0, r.1.now)) l.replacements) l.so_far (drop l.t-index l.terms) l.self ≡ substituted l.fn.at (map (λ r. (r.0, r.1.now)) l.fn.replacements) l.fn.first l.fn.terms l.fn.self;
  range : IsFormOver l.self.given l.so_far;
}
