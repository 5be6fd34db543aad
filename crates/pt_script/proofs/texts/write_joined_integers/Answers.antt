use Rattle.std.proofs.Common.{◌≡◌, ◌++◌, ◌∷◌, [], ◌∙◌, ap, sym, rules, List, ℕ, ℤ, pos, flat_map, drop, get_or, take, length, ◌-◌}
use Rattle.std.proofs.lemmas.List.{take_all}
use Rattle.pt_script.specs.Texts.{integer}
use Rattle.pt_script.proofs.Joining.{join-first, more, others-whole, written-more}
use Rattle.pt_script.proofs.texts.write_joined_integers.Goals as goal

pub loop-x-preserved : goal.loop-x-preserved
loop-x-preserved c =
    let rest : List ℤ = take (length c.args.xs.now - 1) (drop 1 c.args.xs.now) in
    let blank : c.push.new.self.items ≡ c.loop-x.out.items ++ 32 ∷ [] = c.in_ok-push-in-len1-up.ensures.items in
    let wrote : c.write_integer-in-loop-x.new.out.items ≡ c.push.new.self.items ++ integer (get_or rest c.loop-x.x-index (pos 0)) = search rules in
    written-more (λ (x : ℤ). 32 ∷ integer x) rest c.loop-x.x-index (pos 0) c.write_integer.new.out.items c.loop-x.out.items c.write_integer-in-loop-x.new.out.items c.loop-x-test.true c.loop-x.invariant
    (more c.loop-x.out.items (32 ∷ []) (integer (get_or rest c.loop-x.x-index (pos 0))) c.push.new.self.items c.write_integer-in-loop-x.new.out.items blank wrote)

pub returns-after-loop-x : goal.returns-after-loop-x
returns-after-loop-x c =
    let others : List ℕ = flat_map (λ (x : ℤ). 32 ∷ integer x) (drop 1 c.args.xs.now) in
    let after : c.loop-x.out.items ≡ c.write_integer.new.out.items ++ others =
    c.loop-x.invariant ∙ ap (λ (xs : List ℤ). c.write_integer.new.out.items ++ flat_map (λ (x : ℤ). 32 ∷ integer x) xs) (take_all c.loop-x.x-index (take (length c.args.xs.now - 1) (drop 1 c.args.xs.now)) c.loop-x-test.false ∙ others-whole c.args.xs.now) in
    let before : c.write_integer.new.out.items ≡ c.args.out.now.items ++ integer (get_or c.args.xs.now 0 (pos 0)) = search rules in
    more c.args.out.now.items (integer (get_or c.args.xs.now 0 (pos 0))) others c.write_integer.new.out.items c.loop-x.out.items before after
    ∙ ap (λ (l : List ℕ). c.args.out.now.items ++ l) (sym (join-first integer c.args.xs.now (pos 0) c.in-len1-up.len_at_least))
