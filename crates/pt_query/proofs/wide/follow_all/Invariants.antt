use Rattle.std.proofs.Common.{◌≡◌, ℕ, ◌<◌, ◌≤◌, List, Bool, length}
use Rattle.std.specs.Prelude.{slice_index}
use Rattle.pt_query.specs.Spreads.{HasSpread}
use Rattle.pt_query.proofs.wide.follow_all.Given as goal

abbrev pub invariant-loop-letter : goal.invariant-loop-letter
invariant-loop-letter l = record {
  spread : (row : List Bool) → HasSpread l.table row l.table.states l.fn.spread l.place 0 → HasSpread l.table row l.table.states l.spread l.place l.letter;
  grows : length l.fn.spread.states.items ≤ length l.spread.states.items;
  kept : (j : ℕ) → j < length l.fn.spread.states.items → slice_index l.spread.states.items j ≡ slice_index l.fn.spread.states.items j;
}
