use Rattle.pt_handles.proofs.shared_tests.adopt_by.Given as goal

abbrev pub invariant-loop-k : goal.invariant-loop-k
invariant-loop-k g l = g.I.Interner.owns l.store l.pass
