use Rattle.std.proofs.Common.{refl}
use Rattle.pt_formula.specs.Sums.{form_value}
use Rattle.pt_fresh.proofs.Settlings.{settled-some, one-value}
use Rattle.pt_fresh.proofs.laws.terms_have_exactly_one_value.Goals as goal

pub returns-clause-some : goal.returns-clause-some
returns-clause-some c = λ f t values h.
    let (settled, settles) = settled-some f t.side values h.side.definite in
    (form_value settled t.form, (settled, settles, refl))

pub returns-clause-one : goal.returns-clause-one
returns-clause-one c = λ f t values y z h p q. one-value f t values y z h p q
