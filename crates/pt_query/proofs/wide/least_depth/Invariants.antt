use Rattle.std.proofs.Common.{ℕ, ◌-◌, ◌≤◌, ◌<◌, length}
use Rattle.std.specs.Prelude.{slice_index}
use Rattle.pt_query.specs.Spreads.{HasSpread, IsFinal}
use Rattle.pt_query.proofs.wide.least_depth.Given as goal

abbrev pub invariant-loop-place : goal.invariant-loop-place
invariant-loop-place l = record {
  spread : HasSpread l.table l.row l.table.states l.spread l.place 0;
  before : l.place ≤ length l.spread.states.items;
  earlier : (j : ℕ) → j < l.place → IsFinal l.table (slice_index l.spread.states.items j) → ⊥;
}

abbrev pub decreases-loop-place : goal.decreases-loop-place
decreases-loop-place l = l.table.states - l.place
