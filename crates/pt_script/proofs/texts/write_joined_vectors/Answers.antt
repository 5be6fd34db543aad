use Rattle.std.proofs.Common.{◌≡◌, ◌++◌, ◌∷◌, ◌∙◌, ap, sym, rules, List, ℕ, ℤ, Vec, flat_map, map, drop, get_or, take, length, ◌-◌}
use Rattle.std.specs.declared.alloc.Global.{Global}
use Rattle.std.specs.List.{join_with_byte}
use Rattle.std.proofs.lemmas.List.{take_all}
use Rattle.pt_script.specs.Texts.{integer, list}
use Rattle.pt_script.proofs.Joining.{join-first, more, others-whole, map-vectors}
use Rattle.pt_script.proofs.texts.write_joined_vectors.Goals as goal

pub returns-after-loop-z : goal.returns-after-loop-z
returns-after-loop-z c =
    let text : Vec ℤ Global → List ℕ = λ (v : Vec ℤ Global). list (map integer v.items) in
    let zs : List (Vec ℤ Global) = c.args.zs.now in
    let others : List ℕ = flat_map (λ (v : Vec ℤ Global). 32 ∷ text v) (drop 1 zs) in
    let first : Vec ℤ Global = get_or zs 0 c.first-item.result in
    let same : c.first-item.result ≡ first = c.first-item.is in
    let after : c.loop-z.out.items ≡ c.write_vector.new.out.items ++ others =
    c.loop-z.invariant ∙ ap (λ (vs : List (Vec ℤ Global)). c.write_vector.new.out.items ++ flat_map (λ (v : Vec ℤ Global). 32 ∷ text v) vs) (take_all c.loop-z.z-index (take (length zs - 1) (drop 1 zs)) c.loop-z-test.false ∙ others-whole zs) in
    let wrote : c.write_vector.new.out.items ≡ c.args.out.now.items ++ text c.first-item.result = search rules in
    let before : c.write_vector.new.out.items ≡ c.args.out.now.items ++ text first = wrote ∙ ap (λ (v : Vec ℤ Global). c.args.out.now.items ++ text v) same in
    more c.args.out.now.items (text first) others c.write_vector.new.out.items c.loop-z.out.items before after
    ∙ ap (λ (l : List ℕ). c.args.out.now.items ++ l) (sym (join-first text zs c.first-item.result c.in-len1-up.len_at_least))
    ∙ ap (λ (l : List (List ℕ)). c.args.out.now.items ++ join_with_byte 32 l) (sym (map-vectors (λ (z : List ℤ). list (map integer z)) zs))
