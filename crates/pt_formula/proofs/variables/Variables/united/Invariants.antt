use Rattle.std.proofs.Common.{length, ◌+◌, ◌-◌}
use Rattle.pt_formula.proofs.Unions.{Merging}
use Rattle.pt_formula.proofs.variables.Variables.united.Given as goal

abbrev pub invariant-loop-i : goal.invariant-loop-i
invariant-loop-i l = Merging l.a l.b l.items.items l.i l.j

abbrev pub decreases-loop-i : goal.decreases-loop-i
decreases-loop-i l = length l.a + length l.b - (l.i + l.j)
