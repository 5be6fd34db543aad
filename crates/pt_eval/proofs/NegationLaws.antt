-- The complement of a set, and its residuals.
use Rattle.std.proofs.Common.{ℕ, List, length}
use Rattle.pt_sets.specs.Words.{Vector}
use Rattle.pt_sets.specs.Sets.{SameSet}
use Rattle.pt_sets.specs.Costs.{CostWithin, SameResidual}
use Rattle.pt_formula.specs.Truth.{Tree, Not, Solutions, free_variables}
use Rattle.pt_product.specs.Derived.{outside}
use Rattle.pt_eval.proofs.CostLaws.{within-moved, residual-moved}

pub negation-set : (a : Tree) (X : Vector → Type 0) → SameSet (length (free_variables a)) X (Solutions a) → SameSet (length (free_variables a)) (outside X) (Solutions (Not a))
negation-set a X same = record {
  agrees = λ z count.
      let at = same.agrees z count in
      (λ no. (count, λ h. no (at.1 (count, h))), λ h x. h.1 ((at.0 x).1));
}

outside-residual : (t : ℕ) (X : Vector → Type 0) (v w : List ℕ) → SameResidual t X v w → SameResidual t (outside X) v w
outside-residual t X v w same = record { agrees = λ z count. (let at = same.agrees z count in (λ no x. no (at.1 x), λ no x. no (at.0 x))) }

-- a negation has the cost of its child's residuals
pub negation-residuals : (a : Tree) (B : ℕ) → CostWithin (SameResidual (length (free_variables a)) (Solutions a)) (length (free_variables a)) B → CostWithin (SameResidual (length (free_variables a)) (Solutions (Not a))) (length (free_variables a)) B
negation-residuals a B within =
    let t = length (free_variables a) in
    let refl_set : SameSet (length (free_variables a)) (Solutions a) (Solutions a) = record { agrees = λ z count. (λ h. h, λ h. h) } in
    within-moved (SameResidual (length (free_variables a)) (Solutions a)) (SameResidual (length (free_variables a)) (Solutions (Not a))) (length (free_variables a))
    (λ v w hv hw h. residual-moved (length (free_variables a)) (outside (Solutions a)) (Solutions (Not a)) (negation-set a (Solutions a) refl_set) v w (outside-residual (length (free_variables a)) (Solutions a) v w h)) B within
