-- Costs of equal sets.
use Rattle.std.proofs.Common.{◌↔◌, ℕ, suc, List, ◌∙◌}
use Rattle.pt_sets.specs.Words.{Vector, after_digits}
use Rattle.pt_sets.specs.Sets.{SameSet, residual_by}
use Rattle.pt_sets.specs.Costs.{RestrictsBy, SameResidual, IncludesFamily, CostIs}
use Rattle.pt_sets.proofs.Digits.{length-after_digits}
use Rattle.pt_sets.proofs.Counting.{SameSet-sym, SameSet-trans, above-moved, is-moved}
use Rattle.pt_handles.specs.Refusing.{StatesOnlyAbove}
use Rattle.pt_handles.specs.declared.fault.TableFault.{TableFault}
use Rattle.pt_handles.specs.declared.fault.TableFault.TheVariants.{States, NoMemory}
use Rattle.pt_project.specs.Projecting.{without}
use Rattle.pt_project.specs.Families.{same_family}

module _ (n k : ℕ) (X Y : Vector → Type 0) (same : SameSet (suc n) X Y) where
  residuals : (p : List ℕ) → SameSet (suc n) (residual_by X p) (residual_by Y p)
  residuals p = record { agrees = λ z count. same.agrees (after_digits p z) (length-after_digits p z ∙ count) }

  residual-moved : (p q : List ℕ) → SameResidual (suc n) Y p q → SameResidual (suc n) X p q
  residual-moved p q h =
      SameSet-trans (suc n) (residual_by X p) (residual_by Y p) (residual_by X q) (residuals p)
      (SameSet-trans (suc n) (residual_by Y p) (residual_by Y q) (residual_by X q) h (SameSet-sym (suc n) (residual_by X q) (residual_by Y q) (residuals q)))

  includes-moved : (v w : List ℕ) → IncludesFamily (RestrictsBy (suc n) (without k)) (suc n) Y v w → IncludesFamily (RestrictsBy (suc n) (without k)) (suc n) X v w
  includes-moved v w h p restricts = let (q, restricts_q, equal) = h p restricts in (q, restricts_q, residual-moved p q equal)

  -- families of equal sets are equal
  family-moved : (v w : List ℕ) → same_family n k Y v w → same_family n k X v w
  family-moved v w h = (includes-moved v w h.0, includes-moved w v h.1)

  -- a refusal for one set is one for an equal set
  pub refusal-moved : (B : ℕ) (fault : TableFault) → StatesOnlyAbove (same_family n k X) n B fault → StatesOnlyAbove (same_family n k Y) n B fault
  refusal-moved B NoMemory h = tt
  refusal-moved B (States bound) h = (h.0, above-moved (same_family n k X) (same_family n k Y) n (λ v w vs ws. family-moved v w) B h.1)

-- and so is a cost
pub cost-moved : (n k : ℕ) (X Y : Vector → Type 0) → SameSet (suc n) X Y → (B : ℕ) → CostIs (same_family n k X) n B → CostIs (same_family n k Y) n B
cost-moved n k X Y same B cost =
    is-moved (same_family n k X) (same_family n k Y) n (λ v w vs ws. (family-moved n k Y X (SameSet-sym (suc n) X Y same) v w, family-moved n k X Y same v w)) B cost
