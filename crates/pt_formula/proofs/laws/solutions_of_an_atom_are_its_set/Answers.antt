use Rattle.std.proofs.Common.{sym, subst, ◌∙◌}
use Rattle.std.proofs.lemmas.List.{length-map}
use Rattle.pt_atoms.specs.Atoms.{Compares}
use Rattle.pt_formula.specs.Forms.{Monomial}
use Rattle.pt_formula.proofs.TruthLaws.{sum_at}
use Rattle.pt_formula.proofs.laws.solutions_of_an_atom_are_its_set.Goals as goal

pub returns : goal.returns
returns c = λ kind terms constant increasing. record {
  agrees = λ z e.
      let sum = sum_at terms z increasing e in
      (λ h. subst (λ s. Compares kind s constant) sum h.1, λ h. (e ∙ sym (length-map terms (λ (t : Monomial). t.0)), subst (λ s. Compares kind s constant) (sym sum) h));
}
