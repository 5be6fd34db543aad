use Rattle.std.proofs.Common.{◌≡◌, ◌++◌, ◌∷◌, ◌∙◌, ap, sym, List, ℕ, flat_map, drop, get_or, take, length, ◌-◌}
use Rattle.pt_formula.specs.Truth.{valuation}
use Rattle.pt_terms.specs.declared.meaning.Constant.{Constant}
use Rattle.pt_script.specs.Texts.{value_pair}
use Rattle.pt_script.proofs.Joining.{join-first, more, others-whole}
use Rattle.std.proofs.lemmas.List.{take_all}
use Rattle.pt_script.proofs.texts.write_joined_pairs.Goals as goal

pub returns-after-loop-constant : goal.returns-after-loop-constant
returns-after-loop-constant c =
    let text : Constant → List ℕ = value_pair (valuation c.args.variables.now c.args.values.now) in
    let others : List ℕ = flat_map (λ (k : Constant). 32 ∷ text k) (drop 1 c.args.constants.now) in
    let same : c.first-item.result ≡ get_or c.args.constants.now 0 c.first-item.result = c.first-item.is in
    let after : c.loop-constant.out.items ≡ c.write_pair.new.out.items ++ others =
    c.loop-constant.invariant ∙ ap (λ (ks : List Constant). c.write_pair.new.out.items ++ flat_map (λ (k : Constant). 32 ∷ text k) ks) (take_all c.loop-constant.constant-index (take (length c.args.constants.now - 1) (drop 1 c.args.constants.now)) c.loop-constant-test.false ∙ others-whole c.args.constants.now) in
    let before : c.write_pair.new.out.items ≡ c.args.out.now.items ++ text (get_or c.args.constants.now 0 c.first-item.result) =
    c.in_ok-write_pair-in-len1-up.ensures ∙ ap (λ (k : Constant). c.args.out.now.items ++ text k) same in
    more c.args.out.now.items (text (get_or c.args.constants.now 0 c.first-item.result)) others c.write_pair.new.out.items c.loop-constant.out.items before after
    ∙ ap (λ (l : List ℕ). c.args.out.now.items ++ l) (sym (join-first text c.args.constants.now c.first-item.result c.in-len1-up.len_at_least))
