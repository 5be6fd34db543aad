use Rattle.std.proofs.Common.{◌≡◌, drop, map}
use Rattle.pt_terms.specs.Theory.{replacement}
use Rattle.pt_terms.proofs.replacing.replacement.Given as goal

-- what is left gives what all give
abbrev pub invariant-loop-r : goal.invariant-loop-r
invariant-loop-r l = record {
  told : replacement (map (λ r. (r.0, r.1.now)) (drop l.r-index l.fn.replacements)) l.fn.v ≡ replacement (map (λ r. (r.0, r.1.now)) l.fn.replacements) l.fn.v;
}
