use Rattle.std.proofs.Common.{◌≡◌, ◌<◌, ℕ, get_or}
use Rattle.pt_code.specs.Component.{component}
use Rattle.pt_code.specs.Parts.{row_of}
use Rattle.pt_code.proofs.rows.compare_from.Given as goal

abbrev pub invariant-loop-place : goal.invariant-loop-place
invariant-loop-place l = (i : ℕ) → i < l.place → row_of (component l.piece) (get_or l.states i 0) ≡ row_of (component l.piece) (get_or l.best.order.states.items i 0)
