use Rattle.std.proofs.Common.{arith}
use Rattle.pt_shards.proofs.Agreeing.{joins-second, joins-first}
use Rattle.pt_shards.proofs.shard.Shard.join.Goals as goal

pub returns-then-len : goal.returns-then-len
returns-then-len c = joins-second c.args.self.now c.args.other c.requires (omega (arith, c.len.ensures.value, c.len-2.ensures.value))

pub returns-else-len : goal.returns-else-len
returns-else-len c = joins-first c.args.self.now c.args.other c.requires (omega (arith, c.len.ensures.value, c.len-2.ensures.value))
