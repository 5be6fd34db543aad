use Rattle.std.proofs.Common.{◌≡◌, ◌≢◌, ℕ, ◌<◌, List, None, length, reverse, sym, ◌∙◌, subst, rules}
use Rattle.std.specs.Prelude.{IfSome, IfNone}
use Rattle.std.specs.List.{AllByRecursion}
use Rattle.pt_sets.specs.Words.{AreLetters}
use Rattle.pt_query.specs.Fresh.{IsLeastAfter, HasNoneAfter, IsLeastFrom, HasNoneFrom, IsNextWord, HasNoNextWord, words_of}
use Rattle.pt_query.proofs.Listed.{last-word, no-last, reversed-some, reversed-none, some-turned, none-turned, fresh-letters, last-fresh, all-less, next-after, none-after, next-from, none-from}
use Rattle.pt_query.proofs.listing.next_word.Goals.{in-Some+else-len-count, in_default}
use Rattle.pt_query.proofs.listing.next_word.Goals as goal

pub least_after-requires-clause-letters : goal.least_after-requires-clause-letters
least_after-requires-clause-letters c =
    let a = c.args.table.now in
    let found = words_of c.args.found.now in
    let (xs, split) = last-word c.args.found.now c.in-Some.last.now (sym c.in-Some.ensures.value) in
    subst (AreLetters a.tracks) (sym c.as_slice.ensures.value) (fresh-letters a None c.args.start c.in-Some.last.now.items (last-fresh a c.args.start c.args.count found c.requires.listed xs c.in-Some.last.now.items split))

pub returns-then-len-count-clause-some : goal.returns-then-len-count-clause-some
returns-then-len-count-clause-some c =
    let a = c.args.table.now in
    let q = c.args.start in
    let n = c.args.count in
    let found = words_of c.args.found.now in
    let b = c.in-Some.last.now.items in
    let (xs, split) = last-word c.args.found.now c.in-Some.last.now (sym c.in-Some.ensures.value) in
    let count : length b ≡ n = search rules in
    let after = subst (λ (w : List ℕ). IfSome c.in_ok-word.word (λ word. IsLeastAfter a None q w (reverse word.items))) c.as_slice.ensures.value c.in_ok-word.ensures.some in
    reversed-some (IsNextWord a q n found) c.in_ok-word.word c.in_order.result c.in_order.ensures
    (some-turned (IsLeastAfter a None q b) (IsNextWord a q n found) c.in_ok-word.word (next-after a q n found c.requires.listed xs b split count) after)

pub returns-then-len-count-clause-none : goal.returns-then-len-count-clause-none
returns-then-len-count-clause-none c =
    let a = c.args.table.now in
    let q = c.args.start in
    let n = c.args.count in
    let found = words_of c.args.found.now in
    let b = c.in-Some.last.now.items in
    let (xs, split) = last-word c.args.found.now c.in-Some.last.now (sym c.in-Some.ensures.value) in
    let count : length b ≡ n = search rules in
    let after = subst (λ (w : List ℕ). IfNone c.in_ok-word.word (HasNoneAfter a None q w)) c.as_slice.ensures.value c.in_ok-word.ensures.none in
    reversed-none (HasNoNextWord a q n found) c.in_ok-word.word c.in_order.result c.in_order.ensures
    (none-turned (HasNoneAfter a None q b) (HasNoNextWord a q n found) c.in_ok-word.word (none-after a q n found c.requires.listed xs b split count) after)

pub returns-clause-some : goal.returns-clause-some
returns-clause-some c =
    let a = c.args.table.now in
    let q = c.args.start in
    let n = c.args.count in
    let found = words_of c.args.found.now in
    let less : AllByRecursion (λ x. length x < n) found =
    elim c.match-last.branch [
      | in-Some+else-len-count w ↦
          let (xs, split) = last-word c.args.found.now w.in-Some.last.now (sym w.in-Some.ensures.value) in
          let other : length w.in-Some.last.now.items ≢ n = λ e. w.if-len-count.false (w.len.ensures ∙ w.in-Some.last.now.ok.0 ∙ e) in
          all-less a q n found c.requires.listed xs w.in-Some.last.now.items split other
      | in_default w ↦ subst (λ (ws : List (List ℕ)). AllByRecursion (λ x. length x < n) ws) (sym (no-last c.args.found.now (sym w.in_default.ensures.value))) tt
    ] in
    reversed-some (IsNextWord a q n found) c.in_ok-word-2.word c.in_order-2.result c.in_order-2.ensures
    (some-turned (IsLeastFrom a None q n 0) (IsNextWord a q n found) c.in_ok-word-2.word (next-from a q n found c.requires.listed less) c.in_ok-word-2.ensures.some)

pub returns-clause-none : goal.returns-clause-none
returns-clause-none c =
    let a = c.args.table.now in
    let q = c.args.start in
    let n = c.args.count in
    let found = words_of c.args.found.now in
    let less : AllByRecursion (λ x. length x < n) found =
    elim c.match-last.branch [
      | in-Some+else-len-count w ↦
          let (xs, split) = last-word c.args.found.now w.in-Some.last.now (sym w.in-Some.ensures.value) in
          let other : length w.in-Some.last.now.items ≢ n = λ e. w.if-len-count.false (w.len.ensures ∙ w.in-Some.last.now.ok.0 ∙ e) in
          all-less a q n found c.requires.listed xs w.in-Some.last.now.items split other
      | in_default w ↦ subst (λ (ws : List (List ℕ)). AllByRecursion (λ x. length x < n) ws) (sym (no-last c.args.found.now (sym w.in_default.ensures.value))) tt
    ] in
    reversed-none (HasNoNextWord a q n found) c.in_ok-word-2.word c.in_order-2.result c.in_order-2.ensures
    (none-turned (HasNoneFrom a None q n 0) (HasNoNextWord a q n found) c.in_ok-word-2.word (none-from a q n found c.requires.listed less) c.in_ok-word-2.ensures.none)
