use Rattle.std.proofs.Common.{◌≡◌, ℕ, ◌<◌, List, ◌++◌, [], ◌∷◌, length, reverse, ap, sym, ◌∙◌, arith, append_assoc}
use Rattle.std.specs.Prelude.{slice_index}
use Rattle.std.proofs.lemmas.List.{reverse-append}
use Rattle.std.proofs.lemmas.Grind.{common_steps}
use Rattle.pt_query.specs.Walks.{access}
use Rattle.pt_query.proofs.Access.{access-step}
use Rattle.pt_query.proofs.witness.word_of.Goals as goal

pub loop-at-preserved : goal.loop-at-preserved
loop-at-preserved c =
    let P = c.args.walk.now.parents.items in
    let L = c.args.walk.now.letters.items in
    let n = length c.args.walk.now.states.items in
    let j = c.loop-at.at in
    let i = c.loop-at.invariant in
    let some : 0 < j = omega (arith, c.loop-at-test.true) in
    let inside : j < n = i.inside in
    let up : slice_index P j < j = c.requires.earlier j some inside in
    let in_p : j < length P = omega (arith, c.requires.parents) in
    let in_l : j < length L = omega (arith, c.requires.letters) in
    let parent : c.index-at.result.now ≡ slice_index P j = grind (arith, common_steps) in
    let letter : c.index.result.now ≡ slice_index L j = grind (arith, common_steps) in
    let more : reverse c.push-in-loop-at.new.self.items ≡ slice_index L j ∷ reverse c.loop-at.word.items =
    ap (λ (xs : List ℕ). reverse xs) c.in_ok-push-2.ensures.items ∙ ap (λ (x : ℕ). reverse (c.loop-at.word.items ++ x ∷ [])) letter ∙ reverse-append c.loop-at.word.items (slice_index L j ∷ []) in
    record {
      inside = omega (arith, parent, up, inside);
      word =
          ap (λ (x : ℕ). access P L x ++ reverse c.push-in-loop-at.new.self.items) parent
          ∙ ap (λ (xs : List ℕ). access P L (slice_index P j) ++ xs) more
          ∙ sym (append_assoc (access P L (slice_index P j)) (slice_index L j ∷ []) (reverse c.loop-at.word.items))
          ∙ ap (λ (xs : List ℕ). xs ++ reverse c.loop-at.word.items) (sym (access-step P L n c.requires.earlier j some inside))
          ∙ i.word;
    }
