use Rattle.std.proofs.Common.{◌≡◌, ◌++◌, drop}
use Rattle.pt_terms.specs.Elaboration.{Work, give, ◌>>=◌}
use Rattle.pt_read.specs.Commands.{components}
use Rattle.pt_read.proofs.numerals.components.Given as goal

-- what is found so far, in front of what the rest gives, is what all gives
abbrev pub invariant-loop-i : goal.invariant-loop-i
invariant-loop-i l = record {
  told : (w : Work) → (components (drop l.i l.sorts) (drop l.i l.es) >>= λ zs. give (l.found.items ++ zs)) w ≡ components l.fn.sorts l.fn.es w;
}
