use Rattle.std.proofs.Common.{◌≡◌, vec_len}
use Rattle.pt_code.specs.Bounding.{AreBounds}
use Rattle.pt_code.specs.Component.{component}
use Rattle.pt_code.proofs.bounds.bounds_of.Given as goal

abbrev pub invariant-loop : goal.invariant-loop
invariant-loop l = record {
  all : vec_len l.bounds ≡ l.piece.states;
  bounds : AreBounds (component l.piece) l.highs l.bounds.items;
}
