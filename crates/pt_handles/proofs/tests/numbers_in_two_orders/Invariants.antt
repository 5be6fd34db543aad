use Rattle.pt_store.specs.Local.{Owns}
use Rattle.pt_store.specs.Spreading.{first_shard}
use Rattle.pt_handles.proofs.tests.numbers_in_two_orders.Given as goal

abbrev pub invariant-loop-n : goal.invariant-loop-n
invariant-loop-n g l = Owns first_shard l.store l.pass

abbrev pub invariant-loop-k : goal.invariant-loop-k
invariant-loop-k g l = Owns first_shard l.store l.pass
