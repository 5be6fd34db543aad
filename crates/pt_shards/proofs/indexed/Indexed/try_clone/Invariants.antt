use Rattle.std.proofs.Common.{◌≡◌, take}
use Rattle.pt_shards.proofs.indexed.Indexed.try_clone.Given as goal

abbrev pub invariant-loop-code : goal.invariant-loop-code
invariant-loop-code l = l.again ≡ take l.code-index l.code-items
