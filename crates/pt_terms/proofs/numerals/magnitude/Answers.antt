use Rattle.std.proofs.Common.{arith}
use Rattle.pt_terms.proofs.Digits.{digit_step}
use Rattle.pt_terms.proofs.numerals.magnitude.Goals as goal

pub loop-b-preserved : goal.loop-b-preserved
loop-b-preserved c = record { capped = digit_step c.loop-b.value _ _ c.loop-b.b-index c.args.digits.now _ (omega arith) (omega arith) c.loop-b.invariant.capped; small = omega arith }
