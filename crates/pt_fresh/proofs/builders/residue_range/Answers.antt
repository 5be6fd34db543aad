use Rattle.std.proofs.Common.{◌≡◌, ℕ, subst, Ok, Err}
use Rattle.std.specs.Prelude.{pos, ◌-ℤ◌}
use Rattle.std.proofs.lemmas.Result.{err_from_is_err_and}
use Rattle.pt_formula.specs.declared.node.Node.TheVariants as node
use Rattle.pt_formula.specs.declared.form.Form.{Form}
use Rattle.pt_fresh.specs.declared.Relation.TheVariants.{AtMost}
use Rattle.pt_fresh.specs.Making.{make, constant_form, ◌>>=◌}
use Rattle.pt_fresh.specs.Pairs.{compare}
use Rattle.pt_fresh.specs.Outcomes.{Makes}
use Rattle.pt_fresh.proofs.StepLaws.{makes-then, makes-fail}
use Rattle.pt_fresh.proofs.builders.residue_range.Goals as goal

pub returns-in_err-high-clause-makes : goal.returns-in_err-high-clause-makes
returns-in_err-high-clause-makes c =
    let f = c.args.formula.now in
    let h = c.compare_nodes.new.formula in
    let g = c.compare_nodes-2.new.formula in
    let x = c.args.x.now in
    let fault = c.in_err-high.field-0.0 in
    let low = subst (λ (y : Form). compare c.args.at AtMost y x f ≡ Ok (c.in_ok-low.low, h)) c.form_of_number-zero.ensures.value c.in_ok-low.ensures.makes in
    let refused = subst (λ (y : Form). Makes {A = ℕ} (Err fault) h g (compare c.args.at AtMost x y)) c.form_below-bound.ensures.value c.in_err-high.ensures.makes in
    let from = err_from_is_err_and c.from_residual-in_err-high.result c.from_residual-in_err-high.ensures.1 in
    let bounded = compare c.args.at AtMost x (constant_form (pos c.args.size -ℤ pos 1)) in
    rw (from.1, from.2)
    (makes-then {B = ℕ} (compare c.args.at AtMost (constant_form (pos 0)) x) (λ i. bounded >>= λ j. make (node.And i j) c.args.at) f h g c.in_ok-low.low (Err fault) low
    (makes-fail {B = ℕ} bounded (λ j. make (node.And c.in_ok-low.low j) c.args.at) h g g fault refused))

pub returns-clause-makes : goal.returns-clause-makes
returns-clause-makes c =
    let f = c.args.formula.now in
    let h = c.compare_nodes.new.formula in
    let k = c.compare_nodes-2.new.formula in
    let x = c.args.x.now in
    let low = subst (λ (y : Form). compare c.args.at AtMost y x f ≡ Ok (c.in_ok-low.low, h)) c.form_of_number-zero.ensures.value c.in_ok-low.ensures.makes in
    let high = subst (λ (y : Form). compare c.args.at AtMost x y h ≡ Ok (c.in_ok-high.high, k)) c.form_below-bound.ensures.value c.in_ok-high.ensures.makes in
    makes-then (compare c.args.at AtMost (constant_form (pos 0)) x) _ f h c.join.new.formula c.in_ok-low.low _ low
    (makes-then (compare c.args.at AtMost x (constant_form (pos c.args.size -ℤ pos 1))) _ h k c.join.new.formula c.in_ok-high.high _ high c.join.ensures.makes)
