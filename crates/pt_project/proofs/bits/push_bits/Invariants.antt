use Rattle.pt_project.proofs.BitLaws.{ReadsBits}
use Rattle.pt_project.proofs.bits.push_bits.Given as goal

abbrev pub invariant-loop-left : goal.invariant-loop-left
invariant-loop-left l = ReadsBits l.word l.first l.fn.numbers.items l.left l.numbers.items

abbrev pub decreases-loop-left : goal.decreases-loop-left
decreases-loop-left l = l.left
