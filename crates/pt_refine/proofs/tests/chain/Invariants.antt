use Rattle.std.proofs.Common.{◌≡◌}
use Rattle.pt_refine.proofs.tests.chain.Given as goal

abbrev pub invariant-loop-q : goal.invariant-loop-q
invariant-loop-q l = l.rows.letters ≡ 2
