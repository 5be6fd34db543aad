use Rattle.std.proofs.Common.{[], ap, subst}
use Rattle.std.specs.Prelude.{pos, negsuc}
use Rattle.pt_formula.specs.declared.form.Form.{Form}
use Rattle.pt_formula.specs.Forms.{AreTerms}
use Rattle.pt_formula.proofs.TermSums.{combined_terms, once}
use Rattle.pt_formula.proofs.laws.forms_that_are_made_have_their_terms_in_order.Goals as goal

pub returns-clause-sum : goal.returns-clause-sum
returns-clause-sum c = λ a b h. subst AreTerms (ap (λ (f : Form). f.terms) (once a b h.1)) (combined_terms a.terms b.terms (pos 1) h)

pub returns-clause-difference : goal.returns-clause-difference
returns-clause-difference c = λ a b h. combined_terms a.terms b.terms (negsuc 0) h

pub returns-clause-multiple : goal.returns-clause-multiple
returns-clause-multiple c = λ k a h. combined_terms [] a.terms k h
