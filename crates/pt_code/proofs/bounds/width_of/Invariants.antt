use Rattle.std.proofs.Common.{◌<◌, ◌≤◌, ℕ, length}
use Rattle.pt_code.specs.Component.{component}
use Rattle.pt_code.specs.Searching.{successors}
use Rattle.pt_code.proofs.bounds.width_of.Given as goal

abbrev pub invariant-loop-state : goal.invariant-loop-state
invariant-loop-state l = record {
  few : l.width ≤ 65536;
  widest : (q : ℕ) → q < l.state → length (successors (component l.piece) q) ≤ l.width;
}
