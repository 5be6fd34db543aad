use Rattle.std.proofs.Common.{◌≡◌, ◌+◌, ◌*◌, ◌%◌, ◌^◌, drop}
use Rattle.std.specs.List.{fold}
use Rattle.pt_shards.specs.Shards.{hash_of}
use Rattle.pt_shards.proofs.hashed.hash_code.Given as goal

abbrev pub invariant-loop-number : goal.invariant-loop-number
invariant-loop-number l = fold (λ h n. (h * 11400714819323198485 + n) % 2 ^ 64) l.hash (drop l.number-index l.number-items) ≡ hash_of l.code
