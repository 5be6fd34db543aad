use Rattle.std.proofs.Common.{◌≡◌, map, length, ap, sym, ◌∙◌}
use Rattle.std.specs.Prelude.{Ok}
use Rattle.pt_terms.specs.Copies.{marks_of, new_number}
use Rattle.pt_terms.proofs.NodeCopies.{marks-length, copy-fails, copy-goes}
use Rattle.pt_terms.proofs.elaborator.Elaborator.copy.Goals as goal

pub copy_nodes-requires-clause-marks : goal.copy_nodes-requires-clause-marks
copy_nodes-requires-clause-marks c =
    let marks : c.in_ok-marks.marks.items ≡ marks_of c.args.self.now.formula c.args.body = c.in_ok-marks.ensures.ok in
    ap length (c.as_slice.ensures.value ∙ marks) ∙ marks-length c.args.self.now.formula c.args.body

pub returns-in-Err-clause-gives : goal.returns-in-Err-clause-gives
returns-in-Err-clause-gives c =
    let marks : c.in_ok-marks.marks.items ≡ marks_of c.args.self.now.formula c.args.body = c.in_ok-marks.ensures.ok in
    copy-fails c.args.at (map (λ r. (r.0, r.1.now)) c.args.replacements.now) c.args.body c.args.self.now c.as_slice.result.now (c.as_slice.ensures.value ∙ marks) _ c.in-Err.ensures.gives

pub returns-clause-gives : goal.returns-clause-gives
returns-clause-gives c =
    let marks : c.in_ok-marks.marks.items ≡ marks_of c.args.self.now.formula c.args.body = c.in_ok-marks.ensures.ok in
    let number : new_number c.in-Ok.numbers.items c.args.body ≡ c.new_number.result = ap (λ ns. new_number ns c.args.body) (sym c.as_slice-in-Ok.ensures.value) ∙ sym c.new_number.ensures.is in
    copy-goes c.args.at (map (λ r. (r.0, r.1.now)) c.args.replacements.now) c.args.body c.args.self.now c.as_slice.result.now (c.as_slice.ensures.value ∙ marks) c.in-Ok.numbers.items c.copy_nodes.new.self c.in-Ok.ensures.gives ∙ ap (λ i. Ok (i, c.copy_nodes.new.self)) number
