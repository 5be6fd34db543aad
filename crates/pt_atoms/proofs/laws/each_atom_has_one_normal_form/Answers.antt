use Rattle.std.proofs.Common.{◌≡◌, ap, sym, ◌∙◌, refl}
use Rattle.pt_atoms.specs.Atoms.{normal_at, numbers_of}
use Rattle.pt_atoms.proofs.Bezout.{some_gcd, same_gcd}
use Rattle.pt_atoms.proofs.laws.each_atom_has_one_normal_form.Goals as goal

pub returns-clause-exists : goal.returns-clause-exists
returns-clause-exists c = λ a.
    let g = some_gcd (numbers_of a.kind a.coefficients) in
    (normal_at a.kind g.0 a.coefficients a.constant, (g.0, g.1, refl))

pub returns-clause-unique : goal.returns-clause-unique
returns-clause-unique c = λ a m n e f.
    let same : e.0 ≡ f.0 = same_gcd e.0 f.0 (numbers_of a.kind a.coefficients) e.1 f.1 in
    e.2 ∙ ap (λ g. normal_at a.kind g a.coefficients a.constant) same ∙ sym f.2
