use Rattle.std.proofs.Common.{◌≡◌, ◌≤◌, ◌-◌, drop, length}
use Rattle.pt_terms.proofs.bindings.Bindings.truncate.Given as goal

-- the innermost names are away
abbrev pub invariant-loop-self : goal.invariant-loop-self
invariant-loop-self l = record {
  told : l.self ≡ drop (length l.fn.self - length l.self) l.fn.self;
  within : l.len ≤ length l.self;
  less : length l.self ≤ length l.fn.self;
}

abbrev pub decreases-loop-self : goal.decreases-loop-self
decreases-loop-self l = length l.self
