use Rattle.std.proofs.Common.{◌≡◌, List, [], ◌∷◌, set, true, false, subst, sym, slice_index_or, arith, ℕ}
use Rattle.std.proofs.lemmas.Grind.{common_steps}
use Rattle.pt_project.specs.Closing.{MarksMore}
use Rattle.pt_project.proofs.Marks.{marks-again, marks-new}
use Rattle.pt_project.proofs.closing.mark.Goals as goal

pub returns-then-index : goal.returns-then-index
returns-then-index c =
    let marks = c.args.marks.now.items in
    let marked : slice_index_or marks c.args.state false ≡ true = grind (arith, common_steps) in
    marks-again marks c.args.open.now.items c.args.state marked

pub returns : goal.returns
returns c =
    let marks = c.args.marks.now.items in
    let unmarked : slice_index_or marks c.args.state false ≡ false = grind (arith, common_steps) in
    subst (λ (after : List ℕ). MarksMore (c.args.state ∷ []) marks (set marks c.args.state true) c.args.open.now.items after) (sym c.in_ok-push.ensures.items) (marks-new marks c.args.open.now.items c.args.state c.requires unmarked)
