use Rattle.pt_store.specs.Shared.{Owns}
use Rattle.pt_workers.proofs.tests.want_of_memory_goes_before_a_full_shard.Given as goal

abbrev pub invariant-loop-workers : goal.invariant-loop-workers
invariant-loop-workers g l = Owns l.store l.first
