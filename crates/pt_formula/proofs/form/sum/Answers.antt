use Rattle.std.proofs.Common.{w64, FitsSigned, rules, to_z, of_z, ap, subst, ◌∙◌, ℤ, List, pos}
use Rattle.std.proofs.lemmas.Int.{to_z-of_z}
use Rattle.pt_formula.specs.Forms.{Monomial}
use Rattle.pt_formula.specs.Sums.{Checked, combined_form}
use Rattle.pt_formula.proofs.TermSums.{once}
use Rattle.pt_formula.proofs.form.sum.Goals as goal

pub returns : goal.returns
returns c =
    let a = c.args.a.now in
    let b = c.args.b.now in
    let fits : FitsSigned w64 a.constant = search rules in
    let k = to_z w64 (of_z w64 a.constant) in
    subst (Checked c.combined.result)
    (ap (λ (ts : List Monomial). combined_form ts k (pos 1) b) c.as_slice.ensures
    ∙ ap (λ (z : ℤ). combined_form a.terms z (pos 1) b) (to_z-of_z w64 a.constant fits)
    ∙ once a b c.requires.b.terms.1)
    c.combined.ensures
