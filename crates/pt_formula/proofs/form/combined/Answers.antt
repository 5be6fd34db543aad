use Rattle.std.proofs.Common.{FitsSigned, w64, rules, length, ap, ◌∙◌, arith}
use Rattle.std.proofs.lemmas.Int.{to_z-of_z}
use Rattle.pt_formula.specs.Sums.{fits}
use Rattle.pt_formula.proofs.Wide.{sum_handed}
use Rattle.pt_formula.proofs.TermSums.{terms_made, too_many, form_made}
use Rattle.pt_formula.proofs.form.combined.Goals as goal

pub returns-then-as_slice-gt-MAX_TRACKS : goal.returns-then-as_slice-gt-MAX_TRACKS
returns-then-as_slice-gt-MAX_TRACKS c =
    let b = c.args.b.now in
    let ts = c.args.terms.now in
    let xs = c.in_ok-terms.terms in
    let k = c.args.by in
    let fits_right : FitsSigned w64 b.constant = search rules in
    let made = terms_made ts xs b.terms c.as_slice.result.now k _ (to_z-of_z w64 k c.ranges.by) c.as_slice.ensures c.in_ok-terms.ensures in
    let sum = sum_handed c.args.constant k b.constant c.wide_sum.result c.ranges.constant c.ranges.by fits_right c.wide_sum.ensures in
    too_many ts xs c.args.constant k _ b made sum c.in-Some.ensures.0 (omega (arith, c.if-as_slice-gt-MAX_TRACKS.true, ap length c.as_slice-2.ensures))

pub returns : goal.returns
returns c =
    let b = c.args.b.now in
    let ts = c.args.terms.now in
    let xs = c.in_ok-terms.terms in
    let k = c.args.by in
    let z = c.in-Some.constant in
    let fits_right : FitsSigned w64 b.constant = search rules in
    let fits_narrow : FitsSigned w64 z = search rules in
    let made = terms_made ts xs b.terms c.as_slice.result.now k _ (to_z-of_z w64 k c.ranges.by) c.as_slice.ensures c.in_ok-terms.ensures in
    let sum = sum_handed c.args.constant k b.constant c.wide_sum.result c.ranges.constant c.ranges.by fits_right c.wide_sum.ensures in
    let kept = to_z-of_z w64 z fits_narrow ∙ c.in-Some.ensures.1 in
    form_made ts xs c.args.constant k _ b made (kept ∙ sum) (ap fits kept ∙ c.in-Some.ensures.0) c.requires.b.terms (omega (arith, c.if-as_slice-gt-MAX_TRACKS.false, ap length c.as_slice-2.ensures))
