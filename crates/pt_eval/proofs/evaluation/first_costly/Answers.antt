use Rattle.std.proofs.Common.{◌≢◌, inl, inr, ℕ, List, take, sym, subst, ap, ◌∙◌, rules}
use Rattle.std.specs.Prelude.{slice_index}
use Rattle.std.proofs.lemmas.Bool.{cases_lt}
use Rattle.std.proofs.lemmas.List.{take_all}
use Rattle.pt_base.specs.Elements.{ContainsByRecursion}
use Rattle.pt_eval.specs.Outcomes.{outcome_in, costly}
use Rattle.pt_eval.proofs.ReachLaws.{contains-at, contains-last, take-next}
use Rattle.pt_eval.proofs.LevelLaws.{less-front}
use Rattle.pt_eval.proofs.evaluation.first_costly.Goals as goal

pub returns-then-matches-clause-among : goal.returns-then-matches-clause-among
returns-then-matches-clause-among c = contains-at c.args.nodes.now c.loop-node.node-index c.loop-node-test.true

pub returns-then-matches-clause-first : goal.returns-then-matches-clause-first
returns-then-matches-clause-first c j found is = elim (cases_lt j (slice_index c.args.nodes.now c.loop-node.node-index)) [
  | inl less ↦ absurd (c.loop-node.invariant j (less-front c.args.nodes.now c.loop-node.node-index j c.loop-node-test.true c.requires found less) is)
  | inr from ↦ from
]

pub loop-node-preserved : goal.loop-node-preserved
loop-node-preserved c j found =
    let not_here : outcome_in c.args.outcomes.now (slice_index c.args.nodes.now c.loop-node.node-index) ≢ costly = search rules in
    elim (contains-last j (slice_index c.args.nodes.now c.loop-node.node-index) (take c.loop-node.node-index c.args.nodes.now) (subst (λ (xs : List ℕ). ContainsByRecursion j xs) (take-next c.args.nodes.now c.loop-node.node-index c.loop-node-test.true) found)) [
      | inl before ↦ c.loop-node.invariant j before
      | inr here ↦ λ is. not_here (ap (outcome_in c.args.outcomes.now) (sym here) ∙ is)
    ]

pub returns-clause-none : goal.returns-clause-none
returns-clause-none c j found =
    c.loop-node.invariant j (subst (λ (xs : List ℕ). ContainsByRecursion j xs) (sym (take_all c.loop-node.node-index c.args.nodes.now c.loop-node-test.false)) found)
