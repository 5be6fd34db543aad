use Rattle.std.proofs.Common.{◌≡◌, ◌<◌, ℕ, false, get_or, length}
use Rattle.std.specs.Ordering.{nat_cmp, is_gt}
use Rattle.std.specs.Cmp.Lexicographic.{slice_cmp}
use Rattle.pt_code.specs.Component.{component}
use Rattle.pt_code.specs.Parts.{row_of}
use Rattle.pt_code.proofs.rows.highs_of.Given as goal

abbrev pub invariant-loop-state : goal.invariant-loop-state
invariant-loop-state l = record {
  count : length l.highs.items ≡ l.state;
  each : (q : ℕ) → q < l.state → get_or l.highs.items q false ≡ is_gt (slice_cmp nat_cmp (row_of (component l.piece) q) (row_of (component l.piece) l.low));
}
