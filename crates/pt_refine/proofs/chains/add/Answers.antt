use Rattle.std.proofs.Common.{◌≡◌, ℕ, List, [], ◌∷◌, ◌++◌, sym, ap, ◌∙◌}
use Rattle.std.specs.Global.{Vec}
use Rattle.pt_refine.specs.Dealing.{row_of}
use Rattle.pt_refine.proofs.Rows.{row-get, row-set_same, row-set_other}
use Rattle.pt_refine.proofs.chains.add.Goals as goal

pub returns-clause-added : goal.returns-clause-added
returns-clause-added c =
    let rows = c.args.rows.now.items in
    let before : c.index_mut.result.now.items ≡ row_of rows c.args.row = ap (λ (v : Vec ℕ). v.items) c.index_mut.ensures.value ∙ sym (row-get rows c.args.row c.index_mut.result.now c.requires) in
    row-set_same rows c.args.row c.push.new.self c.requires ∙ c.in_ok-push.ensures.items ∙ ap (λ (xs : List ℕ). xs ++ c.args.state ∷ []) before

pub returns-clause-others : goal.returns-clause-others
returns-clause-others c y apart = row-set_other c.args.rows.now.items c.args.row y c.push.new.self apart
