use Rattle.std.proofs.Common.{◌≡◌, ◌≤◌, ◌+◌, ℕ, take, length, get_or, vec_len}
use Rattle.std.specs.List.{flat_map, range_with_len}
use Rattle.pt_code.specs.Component.{component}
use Rattle.pt_code.specs.Searching.{successors}
use Rattle.pt_code.proofs.near.near_of.Given as goal

abbrev pub invariant-loop-state : goal.invariant-loop-state
invariant-loop-state l = record {
  room : vec_len l.met.places ≡ l.piece.states;
  all : length l.starts.items ≡ l.state + 1;
  start : (q : ℕ) → q ≤ l.state → get_or l.starts.items q 0 ≡ length (flat_map (successors (component l.piece)) (take q (range_with_len 0 l.piece.states)));
  items : l.targets.items ≡ flat_map (successors (component l.piece)) (take l.state (range_with_len 0 l.piece.states));
}
