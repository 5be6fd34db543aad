use Rattle.std.proofs.Common.{◌≡◌, vec_len}
use Rattle.pt_code.specs.Bounding.{AreBounds}
use Rattle.pt_code.specs.Component.{component}
use Rattle.pt_code.proofs.bounds.sweep.Given as goal

abbrev pub invariant-loop-step : goal.invariant-loop-step
invariant-loop-step l = record {
  all : vec_len l.bounds ≡ l.piece.states;
  bounds : AreBounds (component l.piece) l.highs l.bounds.items;
}
