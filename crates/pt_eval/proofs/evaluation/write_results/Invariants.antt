use Rattle.std.proofs.Common.{map}
use Rattle.pt_eval.specs.Outcomes.{AreWritten, outcome_in}
use Rattle.pt_eval.proofs.evaluation.write_results.Given as goal

abbrev pub invariant-loop-node : goal.invariant-loop-node
invariant-loop-node l = AreWritten (map (λ t. t.0) l.told) (map (λ t. t.1) l.told) l.node-index (outcome_in l.initial.outcomes) (outcome_in l.outcomes)
