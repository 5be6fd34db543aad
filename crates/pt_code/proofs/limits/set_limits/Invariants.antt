use Rattle.std.proofs.Common.{◌≡◌, ◌+◌, ◌*◌, ◌<◌, ℕ, ◌≤◌, length, get_or}
use Rattle.pt_code.specs.Bounding.{nothing}
use Rattle.pt_code.proofs.limits.set_limits.Given as goal

abbrev pub invariant-loop-state : goal.invariant-loop-state
invariant-loop-state l = record {
  all : length l.limits.items ≡ length l.bounds;
  soon : (q n : ℕ) → q < l.state → n < get_or l.limits.items q 0 → n * (get_or l.bounds q nothing).weight + (get_or l.bounds q nothing).offset < l.run;
  high : (q : ℕ) → q < l.state → get_or l.bounds q nothing ≡ record { weight = 1; offset = 0 } → l.run ≤ get_or l.limits.items q 0;
}
