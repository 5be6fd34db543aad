use Rattle.std.proofs.Common.{◌≢◌, ℕ, take}
use Rattle.pt_base.specs.Elements.{ContainsByRecursion}
use Rattle.pt_eval.specs.Outcomes.{outcome_in, costly}
use Rattle.pt_eval.proofs.evaluation.first_costly.Given as goal

abbrev pub invariant-loop-node : goal.invariant-loop-node
invariant-loop-node l = (j : ℕ) → ContainsByRecursion j (take l.node-index l.nodes) → outcome_in l.outcomes j ≢ costly
