use Rattle.pt_project.proofs.WordLaws.{TakesWords}
use Rattle.pt_project.proofs.bits.take_numbers.Given as goal

abbrev pub invariant-loop-k : goal.invariant-loop-k
invariant-loop-k l = TakesWords l.fn.words.items l.k l.words.items l.numbers.items
