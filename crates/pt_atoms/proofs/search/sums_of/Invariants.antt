use Rattle.std.proofs.Common.{ℕ, ◌*◌, ◌^◌, ◌<◌, ◌≤◌, ◌≡◌, get_or, vec_len, pos, unsigned_abs}
use Rattle.pt_atoms.specs.Atoms.{sum_at}
use Rattle.pt_atoms.proofs.search.sums_of.Given as goal

abbrev pub invariant-loop-letter : goal.invariant-loop-letter
invariant-loop-letter l =
    (vec_len l.sums ≡ l.letter)
    × ((d : ℕ) → d < l.letter → (get_or l.sums.items d (pos 0) ≡ sum_at l.coefficients d) × (unsigned_abs (get_or l.sums.items d (pos 0)) ≤ 10 * 2 ^ 63))
