-- Costs of pairs of equal sets.
use Rattle.std.proofs.Common.{◌≡◌, ◌↔◌, ℕ, List, ◌∙◌}
use Rattle.pt_sets.specs.Words.{Vector, after_digits}
use Rattle.pt_sets.specs.Sets.{SameSet, residual_by}
use Rattle.pt_sets.specs.Costs.{SameResidual, SamePair, CostIs}
use Rattle.pt_sets.proofs.Digits.{length-after_digits}
use Rattle.pt_sets.proofs.Counting.{SameSet-sym, SameSet-trans, above-moved, is-moved}
use Rattle.pt_handles.specs.Refusing.{StatesOnlyAbove}
use Rattle.pt_handles.specs.declared.fault.TableFault.{TableFault}
use Rattle.pt_handles.specs.declared.fault.TableFault.TheVariants.{States, NoMemory}

residuals : (t : ℕ) (X Y : Vector → Type 0) (w : List ℕ) → SameSet t X Y → SameSet t (residual_by X w) (residual_by Y w)
residuals t X Y w same = record { agrees = λ z count. same.agrees (after_digits w z) (length-after_digits w z ∙ count) }

-- equal residuals of a set are equal residuals of an equal set
residual-moved : (t : ℕ) (X Y : Vector → Type 0) (v w : List ℕ) → SameSet t X Y → SameResidual t X v w → SameResidual t Y v w
residual-moved t X Y v w same h =
    SameSet-trans t (residual_by Y v) (residual_by X v) (residual_by Y w) (SameSet-sym t (residual_by X v) (residual_by Y v) (residuals t X Y v same))
    (SameSet-trans t (residual_by X v) (residual_by X w) (residual_by Y w) h (residuals t X Y w same))

module _ (t : ℕ) (X Y S T : Vector → Type 0) (same_x : SameSet t X S) (same_y : SameSet t Y T) where
  -- equal pairs of residuals of two sets are those of equal sets
  pair-moved : (v w : List ℕ) → SamePair t X Y v w ↔ SamePair t S T v w
  pair-moved v w = (
    λ h. (residual-moved t X S v w same_x h.0, residual-moved t Y T v w same_y h.1),
    λ h. (residual-moved t S X v w (SameSet-sym t X S same_x) h.0, residual-moved t T Y v w (SameSet-sym t Y T same_y) h.1),
  )

  -- a refusal for two sets is one for equal sets
  pub refusal-moved : (B : ℕ) (fault : TableFault) → StatesOnlyAbove (SamePair t X Y) t B fault → StatesOnlyAbove (SamePair t S T) t B fault
  refusal-moved B NoMemory h = tt
  refusal-moved B (States bound) h = (h.0, above-moved (SamePair t X Y) (SamePair t S T) t (λ v w vs ws. (pair-moved v w).1) B h.1)

  -- and so is a cost
  pub cost-moved : (B : ℕ) → CostIs (SamePair t X Y) t B → CostIs (SamePair t S T) t B
  cost-moved B h = is-moved (SamePair t X Y) (SamePair t S T) t (λ v w vs ws. pair-moved v w) B h
