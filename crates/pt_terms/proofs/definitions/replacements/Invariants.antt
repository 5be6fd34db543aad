use Rattle.std.proofs.Common.{◌≡◌, ◌++◌, drop, map}
use Rattle.pt_terms.specs.Elaboration.{Work, give, ◌>>=◌}
use Rattle.pt_terms.specs.Theory.{replacements}
use Rattle.pt_terms.proofs.definitions.replacements.Given as goal

-- what is found so far, in front of what the rest gives, is what all gives
abbrev pub invariant-loop-i : goal.invariant-loop-i
invariant-loop-i l = record {
  told : (w : Work) → (replacements (drop l.i l.fn.parameters) (drop l.i l.fn.sorts) (drop l.i l.fn.arguments) >>= λ rs. give (map (λ r. (r.0, r.1.now)) l.found.items ++ rs)) w
      ≡ replacements l.fn.parameters l.fn.sorts l.fn.arguments w;
}
