use Rattle.std.proofs.Common.{◌≡◌}
use Rattle.pt_refine.proofs.tests.random_rows.Given as goal

abbrev pub invariant-loop : goal.invariant-loop
invariant-loop l = l.rows.letters ≡ l.letters

abbrev pub invariant-loop-s : goal.invariant-loop-s
invariant-loop-s l = l.rows.letters ≡ l.letters

abbrev pub invariant-loop-q : goal.invariant-loop-q
invariant-loop-q l = l.rows.letters ≡ l.letters
