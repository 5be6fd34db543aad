use Rattle.std.proofs.Common.{◌≡◌, drop}
use Rattle.pt_sets.specs.Words.{parities}
use Rattle.pt_query.specs.Shifting.{shifted}
use Rattle.pt_query.proofs.digits.letter_at.Given as goal

abbrev pub invariant-loop-i : goal.invariant-loop-i
invariant-loop-i l = l.letter ≡ parities (shifted l.k (drop l.i l.z))
