use mir.Syntax.{w128}
use Rattle.std.proofs.Common.{◌≡◌, IfOk, length, to_z, of_z, ◌-ℤ◌, subst, sym, ap, ◌∙◌, arith}
use Rattle.std.proofs.lemmas.Int.{ints}
use Rattle.pt_sets.specs.Sets.{SameSet, residual}
use Rattle.pt_atoms.specs.Atoms.{IsNormal, NormalSet, sum_at, residual_form}
use Rattle.pt_atoms.specs.Parameters.{coefficients_at, form_at, next_parameter, parameter_of, parameter_after}
use Rattle.pt_atoms.specs.declared.Normal.{Normal}
use Rattle.pt_atoms.proofs.LoopSteps.{if_ok_by}
use Rattle.pt_atoms.proofs.Forms.{residual_is_normal, residual_has_set}
use Rattle.pt_atoms.proofs.ParameterForms.{own_coefficients_at, residual_form_own}
use Rattle.pt_atoms.proofs.residuals.residual.Goals as goal

form_is : (c : goal.After-form_of) → IfOk c.form_of.result (λ n. n ≡ residual_form c.args.normal.now c.args.letter)
form_is c =
    let n = c.args.normal.now in
    let d = c.args.letter in
    let sum : c.digit_sum-sum.result ≡ sum_at n.coefficients d = c.digit_sum-sum.ensures.value ∙ ap (λ s. sum_at s d) c.as_slice.ensures in
    let own : sum_at (coefficients_at n.kind n.coefficients) d ≡ sum_at n.coefficients d = ap (λ s. sum_at s d) (own_coefficients_at n c.requires.normal_form) in
    let r : to_z w128 (of_z w128 (to_z w128 (of_z w128 n.constant) -ℤ to_z w128 (of_z w128 c.digit_sum-sum.result))) ≡ n.constant -ℤ sum_at (coefficients_at n.kind n.coefficients) d = omega (arith, ints, sum, own) in
    let next : c.step-next.result ≡ parameter_after n.coefficients (parameter_of n) d = c.step-next.ensures ∙ ap (next_parameter n.kind) r in
    let whole : form_at c.as_slice-2.result.now c.step-next.result ≡ residual_form n d =
    ap (λ s. form_at s c.step-next.result) c.as_slice-2.ensures ∙ ap (form_at n.coefficients) next ∙ residual_form_own n d c.requires.normal_form in
    if_ok_by _ _ c.form_of.result (λ m e. e ∙ whole) c.form_of.ensures

pub returns-clause-form : goal.returns-clause-form
returns-clause-form c = form_is c

pub returns-clause-normal_form : goal.returns-clause-normal_form
returns-clause-normal_form c =
    if_ok_by _ _ c.form_of.result (λ n e. subst (λ (m : Normal). IsNormal m) (sym e) (residual_is_normal c.args.normal.now c.args.letter c.requires.normal_form)) (form_is c)

pub returns-clause-set : goal.returns-clause-set
returns-clause-set c =
    let n = c.args.normal.now in
    let d = c.args.letter in
    if_ok_by _ _ c.form_of.result
    (λ m e. subst (λ (x : Normal). SameSet (length n.coefficients) (NormalSet x) (residual (NormalSet n) d)) (sym e) (record { agrees = λ z f. residual_has_set n d z c.requires.normal_form f }))
    (form_is c)
