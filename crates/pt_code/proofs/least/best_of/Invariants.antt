use Rattle.std.proofs.Common.{◌≡◌, vec_len}
use Rattle.pt_code.specs.Component.{component}
use Rattle.pt_code.specs.Best.{IsBest}
use Rattle.pt_code.specs.Parts.{Leads}
use Rattle.pt_code.proofs.least.best_of.Given as goal

abbrev pub invariant-loop-entry : goal.invariant-loop-entry
invariant-loop-entry l = record {
  leads : Leads (component l.piece) l.entry l.best.entry;
  best : IsBest (component l.piece) l.shape l.best;
  own_room : vec_len l.order.places ≡ l.piece.states;
  room : vec_len l.side.order.places ≡ l.piece.states;
  other_room : vec_len l.other.order.places ≡ l.piece.states;
}
