use Rattle.std.proofs.Common.{◌≢◌, ◌<◌, ℕ}
use Rattle.std.specs.Ordering.{nat_cmp}
use Rattle.std.specs.Cmp.Lexicographic.{slice_cmp}
use Rattle.std.specs.declared.cmp.Ordering.TheVariants.{Greater}
use Rattle.pt_code.specs.Component.{component}
use Rattle.pt_code.specs.Parts.{row_of}
use Rattle.pt_code.proofs.rows.lowest.Given as goal

abbrev pub invariant-loop-state : goal.invariant-loop-state
invariant-loop-state l = record {
  within : l.low < l.piece.states;
  least : (q : ℕ) → q < l.state → slice_cmp nat_cmp (row_of (component l.piece) l.low) (row_of (component l.piece) q) ≢ Greater;
}
