use Rattle.std.proofs.Common.{◌⊎◌, inl, inr}
use Rattle.pt_formula.specs.Truth.{Exists}
use Rattle.pt_truth.proofs.laws.what_cannot_fail_holds.Goals as goal

-- a decided fact that cannot fail holds
stable : {P : Type 0} → P ⊎ (¬ P) → (¬ (¬ P)) → P
stable (inl p) h = p
stable (inr n) h = absurd (h n)

pub returns : goal.returns
returns c = record {
  holds = λ t values h. stable (c.truth_is_decided.ensures t values) h;
  some = λ v t values h. stable (c.truth_is_decided.ensures (Exists v t) values) h;
}
