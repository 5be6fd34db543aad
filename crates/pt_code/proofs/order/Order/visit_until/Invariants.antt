use Rattle.std.proofs.Common.{◌≡◌, take, vec_len}
use Rattle.pt_code.specs.Limiting.{IsLate}
use Rattle.pt_code.specs.Searching.{IsNumbered, visit_all}
use Rattle.pt_code.proofs.order.Order.visit_until.Given as goal

abbrev pub invariant-loop-state : goal.invariant-loop-state
invariant-loop-state l = record {
  states : l.self.states.items ≡ visit_all l.fn.self.states.items (take l.state-index l.states);
  late : IsLate l.limits l.self.states.items;
  numbered : IsNumbered l.self.states.items l.self.places.items;
  room : vec_len l.self.places ≡ vec_len l.fn.self.places;
}
