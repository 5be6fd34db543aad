use Rattle.std.proofs.Common.{◌≡◌, ℕ, List, [], ◌∷◌, ◌++◌, sym, ap, ◌∙◌}
use Rattle.std.specs.Global.{Vec}
use Rattle.pt_project.specs.Closing.{row_of}
use Rattle.pt_project.proofs.Rows.{row-get, row-set_same, row-set_other}
use Rattle.pt_project.proofs.sources.add_source.Goals as goal

pub returns-clause-added : goal.returns-clause-added
returns-clause-added c =
    let lists = c.args.lists.now.items in
    let before : c.index_mut.result.now.items ≡ row_of lists c.args.target = ap (λ (v : Vec ℕ). v.items) c.index_mut.ensures.value ∙ sym (row-get lists c.args.target c.index_mut.result.now c.requires) in
    row-set_same lists c.args.target c.push.new.self c.requires ∙ c.in_ok-push.ensures.items ∙ ap (λ (xs : List ℕ). xs ++ c.args.source ∷ []) before

pub returns-clause-others : goal.returns-clause-others
returns-clause-others c y apart = row-set_other c.args.lists.now.items c.args.target y c.push.new.self apart
