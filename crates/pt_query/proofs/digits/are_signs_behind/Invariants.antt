use Rattle.std.proofs.Common.{ℕ, ◌<◌, get_or}
use Rattle.std.specs.Prelude.{pos}
use Rattle.std.specs.Int.{int_shr}
use Rattle.pt_query.proofs.Shifts.{IsSign}
use Rattle.pt_query.proofs.digits.are_signs_behind.Given as goal

abbrev pub invariant-loop-x : goal.invariant-loop-x
invariant-loop-x l = (j : ℕ) → j < l.x-index → IsSign (int_shr (get_or l.z j (pos 0)) l.k)
