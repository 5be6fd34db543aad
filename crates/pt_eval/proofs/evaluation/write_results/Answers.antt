use Rattle.std.proofs.Common.{ap}
use Rattle.std.specs.Prelude.{unwrap_or}
use Rattle.pt_eval.specs.declared.outcome.Outcome.TheVariants.{Pending}
use Rattle.pt_eval.specs.Outcomes.{outcome_in}
use Rattle.pt_eval.proofs.LevelLaws.{get-apart}
use Rattle.pt_eval.proofs.ToldLaws.{told-written}
use Rattle.pt_eval.proofs.evaluation.write_results.Goals as goal

pub loop-node-preserved : goal.loop-node-preserved
loop-node-preserved c =
    told-written c.args.told.now c.loop-node.node-index (outcome_in c.args.outcomes.now) (outcome_in c.loop-node.outcomes) (outcome_in c.insert.new.self) c.loop-node-test.true
    (ap (λ o. unwrap_or o Pending) c.in_ok-insert.ensures.updates.1) (λ i apart. ap (λ o. unwrap_or o Pending) (c.in_ok-insert.ensures.updates.2 i (get-apart _ i apart))) c.loop-node.invariant
