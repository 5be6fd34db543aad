use Rattle.pt_store.specs.Shared.{Owns}
use Rattle.pt_script.proofs.tests.a_fault_is_answered_for_ever.Given as goal

abbrev pub invariant-loop-turn : goal.invariant-loop-turn
invariant-loop-turn g l = Owns l.store l.pass
