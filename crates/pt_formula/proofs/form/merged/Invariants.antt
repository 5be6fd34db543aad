use Rattle.std.proofs.Common.{length, ◌+◌, ◌-◌}
use Rattle.pt_formula.proofs.TermSums.{Summing}
use Rattle.pt_formula.proofs.form.merged.Given as goal

abbrev pub invariant-loop-i : goal.invariant-loop-i
invariant-loop-i l = Summing l.a l.b l.items.items l.by l.i l.j

abbrev pub decreases-loop-i : goal.decreases-loop-i
decreases-loop-i l = length l.a + length l.b - (l.i + l.j)
