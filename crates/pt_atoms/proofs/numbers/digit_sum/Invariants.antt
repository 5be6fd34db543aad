use Rattle.std.proofs.Common.{◌*◌, ◌^◌, ◌≤◌, ◌≡◌, drop, ◌+ℤ◌, unsigned_abs}
use Rattle.pt_atoms.specs.Atoms.{sum_at}
use Rattle.pt_atoms.proofs.numbers.digit_sum.Given as goal

abbrev pub invariant-loop-a : goal.invariant-loop-a
invariant-loop-a l =
    (sum_at l.coefficients l.letter ≡ l.sum +ℤ sum_at (drop l.a-index l.coefficients) l.rest)
    × (unsigned_abs l.sum ≤ l.a-index * 2 ^ 63)
