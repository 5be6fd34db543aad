use Rattle.std.proofs.Common.{◌≡◌, ℤ, List, IfOk, to_z, of_z, w64, subst, rules}
use Rattle.std.proofs.lemmas.Int.{to_z-of_z}
use mir.Val.{SFits}
use Rattle.pt_atoms.specs.Atoms.{IsNormalFormAt, IsInRangeFor}
use Rattle.pt_atoms.proofs.LoopSteps.{if_ok_by}
use Rattle.pt_atoms.proofs.AtomForms.{HasAtom, normal_form_at, is_normal_from}
use Rattle.pt_atoms.proofs.form.normal.Goals as goal

has_atom : (c : goal.After-first_form) → IfOk c.first_form.result (λ n. HasAtom c.args.atom.now.kind c.args.atom.now.coefficients c.args.atom.now.constant n)
has_atom c =
    let k = c.args.atom.now.kind in
    let cs = c.args.atom.now.coefficients in
    let fits : SFits w64 c.args.atom.now.constant = search rules in
    let constant : to_z w64 (of_z w64 c.args.atom.now.constant) ≡ c.args.atom.now.constant = to_z-of_z w64 c.args.atom.now.constant fits in
    let range : IsInRangeFor k cs c.args.atom.now.constant =
    subst (λ (x : ℤ). IsInRangeFor k cs x) constant (subst (λ (s : List ℤ). IsInRangeFor k s (to_z w64 (of_z w64 c.args.atom.now.constant))) c.as_slice.ensures c.first_form.ensures.range) in
    if_ok_by _ _ c.first_form.result (λ n h.
    normal_form_at k cs c.args.atom.now.constant n c.requires.modulus range
    (subst (λ (x : ℤ). IsNormalFormAt k cs x n) constant (subst (λ (s : List ℤ). IsNormalFormAt k s (to_z w64 (of_z w64 c.args.atom.now.constant)) n) c.as_slice.ensures h))) c.first_form.ensures.form

pub returns-clause-normal_form : goal.returns-clause-normal_form
returns-clause-normal_form c =
    if_ok_by _ _ c.first_form.result (λ n h. is_normal_from c.args.atom.now.kind c.args.atom.now.coefficients c.args.atom.now.constant n c.requires.tracks h) (has_atom c)

pub returns-clause-tracks : goal.returns-clause-tracks
returns-clause-tracks c = if_ok_by _ _ c.first_form.result (λ n h. h.size) (has_atom c)

pub returns-clause-set : goal.returns-clause-set
returns-clause-set c = if_ok_by _ _ c.first_form.result (λ n h. record { agrees = h.set }) (has_atom c)
