use Rattle.std.proofs.Common.{◌≡◌, ℕ, ℤ, w64, subst, Ok, Err}
use Rattle.std.proofs.lemmas.Int.{to_z-of_z}
use Rattle.std.proofs.lemmas.Result.{err_from_is_err_and}
use Rattle.pt_formula.specs.declared.form.Form.{Form}
use Rattle.pt_formula.specs.Sums.{form_scale}
use Rattle.pt_fresh.specs.Making.{form, variable_form, ◌>>=◌}
use Rattle.pt_fresh.specs.Builders.{size, between}
use Rattle.pt_fresh.specs.Outcomes.{Makes}
use Rattle.pt_fresh.proofs.StepLaws.{makes-then, makes-fail}
use Rattle.pt_fresh.proofs.builders.divide_nodes.Goals as goal

pub returns-in_err-multiple-clause-makes : goal.returns-in_err-multiple-clause-makes
returns-in_err-multiple-clause-makes c =
    let f = c.args.formula.now in
    let n = c.args.n in
    let x = variable_form c.args.v in
    let fault = c.in_err-multiple.field-0.0 in
    let exact = to_z-of_z w64 n c.ranges.n in
    let sized = subst (λ (z : ℤ). size z f ≡ Ok (c.in_ok-size.size, f)) exact (c.in_ok-size.ensures.answers f) in
    let refused = subst (λ (y : Form). Makes {A = Form} (Err fault) f f (form (form_scale n y) c.args.at)) c.in_ok-variable.ensures.value
    (subst (λ (z : ℤ). Makes {A = Form} (Err fault) f f (form (form_scale z c.in_ok-variable.variable) c.args.at)) exact (c.in_err-multiple.ensures.answers f)) in
    let from = err_from_is_err_and c.from_residual-in_err-multiple.result c.from_residual-in_err-multiple.ensures.1 in
    rw (from.1, from.2)
    (makes-then {B = ℕ} (size n) (λ m. form (form_scale n x) c.args.at >>= λ y. between y c.args.a.now m c.args.at) f f f c.in_ok-size.size (Err fault) sized
    (makes-fail {B = ℕ} (form (form_scale n x) c.args.at) (λ y. between y c.args.a.now c.in_ok-size.size c.args.at) f f f fault refused))

pub returns-clause-makes : goal.returns-clause-makes
returns-clause-makes c =
    let f = c.args.formula.now in
    let g = c.between.new.formula in
    let n = c.args.n in
    let x = variable_form c.args.v in
    let exact = to_z-of_z w64 n c.ranges.n in
    let sized = subst (λ (z : ℤ). size z f ≡ Ok (c.in_ok-size.size, f)) exact (c.in_ok-size.ensures.answers f) in
    let scaled = subst (λ (y : Form). form (form_scale n y) c.args.at f ≡ Ok (c.in_ok-multiple.multiple, f)) c.in_ok-variable.ensures.value
    (subst (λ (z : ℤ). form (form_scale z c.in_ok-variable.variable) c.args.at f ≡ Ok (c.in_ok-multiple.multiple, f)) exact (c.in_ok-multiple.ensures.answers f)) in
    makes-then (size n) _ f f g c.in_ok-size.size _ sized (makes-then (form (form_scale n x) c.args.at) _ f f g c.in_ok-multiple.multiple _ scaled c.between.ensures.makes)
