use Rattle.std.proofs.Common.{ℕ, List, length}
use Rattle.pt_sets.specs.Costs.{SameResidual}
use Rattle.pt_atoms.specs.Atoms.{IsNormal, NormalSet, SameParameter}
use Rattle.pt_atoms.specs.declared.Normal.{Normal}
use Rattle.pt_atoms.proofs.Forms.{same_form, same_residual, same_parameter_form, same_form_parameter}
use Rattle.pt_atoms.proofs.FormCosts.{cost_above_by, cost_within_by, cost_is_by}
use Rattle.pt_atoms.proofs.laws.parameters_count_the_residuals.Goals as goal

there : (n : Normal) → IsNormal n → (v w : List ℕ) → SameParameter n v w → SameResidual (length n.coefficients) (NormalSet n) v w
there n h v w e = same_residual n v w h (same_parameter_form n v w h e)

back : (n : Normal) → IsNormal n → (v w : List ℕ) → SameResidual (length n.coefficients) (NormalSet n) v w → SameParameter n v w
back n h v w e = same_form_parameter n v w (same_form n v w h e)

pub returns-clause-above : goal.returns-clause-above
returns-clause-above c = λ n B h.
    let t = length n.coefficients in (
      cost_above_by (SameParameter n) (SameResidual t (NormalSet n)) t B (back n h),
      cost_above_by (SameResidual t (NormalSet n)) (SameParameter n) t B (there n h),
    )

pub returns-clause-within : goal.returns-clause-within
returns-clause-within c = λ n B h.
    let t = length n.coefficients in (
      cost_within_by (SameParameter n) (SameResidual t (NormalSet n)) t B (there n h),
      cost_within_by (SameResidual t (NormalSet n)) (SameParameter n) t B (back n h),
    )

pub returns-clause-number : goal.returns-clause-number
returns-clause-number c = λ n B h.
    let t = length n.coefficients in (
      cost_is_by (SameParameter n) (SameResidual t (NormalSet n)) t B (there n h) (back n h),
      cost_is_by (SameResidual t (NormalSet n)) (SameParameter n) t B (back n h) (there n h),
    )
