use Rattle.std.proofs.Common.{◌≡◌, ◌<◌, ℕ, false, get_or}
use Rattle.pt_code.proofs.rows.is_flat.Given as goal

abbrev pub invariant-loop-high : goal.invariant-loop-high
invariant-loop-high l = (q : ℕ) → q < l.high-index → get_or l.highs q false ≡ false
