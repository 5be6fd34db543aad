use Rattle.std.proofs.Common.{◌∙◌, ◌++◌, List, [], ◌∷◌, ℕ, ap, codes}
use Rattle.std.specs.Prelude.{decimal}
use Rattle.pt_drill.specs.Drill.{line}
use Rattle.pt_drill.proofs.Pieces.{asked, first, number_more, piece_more}
use Rattle.pt_drill.proofs.script.write_questions.Goals as goal

pub returns : goal.returns
returns c =
    let start : List ℕ = c.args.out.now.items in
    let one = first start _ _ c.write_number.new.out.items c.in_ok-write_number.ensures in
    let two = number_more start _ _ _ c.write_number.new.out.items c.write_number-2.new.out.items one c.in_ok-write_number-2.ensures in
    let all = piece_more start _ _ c.write_number-2.new.out.items c.extend_from_slice.new.self.items two c.in_ok-extend_from_slice.ensures.items in
    all ∙ ap (λ (l : List ℕ). start ++ l) (asked (codes "(set-states g") (decimal c.args.i) (codes ")") (10 ∷ []) (line (codes "(push 1)")) (codes "(assert (and (g") (codes " p q) (>= p 0)))")
    (line (codes "(check-sat)")) (line (codes "(pop 1)")))
