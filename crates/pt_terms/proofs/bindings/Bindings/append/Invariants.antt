use Rattle.std.proofs.Common.{◌≡◌, ◌++◌, take, reverse}
use Rattle.pt_terms.proofs.bindings.Bindings.append.Given as goal

-- the names so far are bound
abbrev pub invariant-loop-place : goal.invariant-loop-place
invariant-loop-place l = l.self ≡ reverse (take l.place (reverse l.inner)) ++ l.fn.self
