use Rattle.std.proofs.Common.{◌≡◌, ◌<◌, ℕ, cond, false, length, get_or}
use Rattle.pt_code.specs.Bounding.{nothing}
use Rattle.pt_code.proofs.bounds.own_bounds.Given as goal

abbrev pub invariant-loop-high : goal.invariant-loop-high
invariant-loop-high l = record {
  all : length l.bounds.items ≡ l.high-index;
  own : (q : ℕ) → q < l.high-index → get_or l.bounds.items q nothing ≡ cond (get_or l.highs q false) (record { weight = 1; offset = 0 }) nothing;
}
