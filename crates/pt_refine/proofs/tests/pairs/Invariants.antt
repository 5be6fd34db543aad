use Rattle.std.proofs.Common.{◌≡◌}
use Rattle.pt_refine.proofs.tests.pairs.Given as goal

abbrev pub invariant-loop-cell : goal.invariant-loop-cell
invariant-loop-cell l = l.rows.letters ≡ 128
