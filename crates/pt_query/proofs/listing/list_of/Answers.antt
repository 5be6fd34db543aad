use Rattle.std.proofs.Common.{◌≡◌, ℕ, ◌<◌, List, length, ap, sym, ◌∙◌, subst, arith, rules}
use Rattle.std.specs.Prelude.{ℤ}
use Rattle.std.specs.List.{AllByRecursion}
use Rattle.std.specs.Global.{Vec}
use Rattle.pt_sets.specs.Automata.{SetOfState}
use Rattle.pt_sets.specs.Shortlex.{IsFirstMembers}
use Rattle.pt_query.specs.Queries.{vectors_of, IsNarrow}
use Rattle.pt_query.specs.Fresh.{words_of, values_of, AreShortWords, HasNoWide}
use Rattle.pt_query.proofs.Listed.{length-words}
use Rattle.pt_query.proofs.FirstMembers.{words-short, narrow-values, first-values, wide-values}
use Rattle.pt_query.proofs.listing.list_of.Goals.{then-len-k+in_ok-letters+in_default, else-len-k}
use Rattle.pt_query.proofs.listing.list_of.Goals as goal

pub returns-in-Some-clause-wide : goal.returns-in-Some-clause-wide
returns-in-Some-clause-wide c =
    let words = c.in_ok-words.words.items in
    let less : length words < c.args.k = search rules in
    let wide = rw c.in-Some.is at c.in_ok-letters.ensures.some in
    wide-values c.args.table.now c.tracks-tracks.ensures.valid c.args.start c.requires c.args.k (words_of words) c.in_ok-words.ensures c.in-Some.letters (let size = length-words words in omega (arith, size, less)) wide

pub vectors-requires-clause-words : goal.vectors-requires-clause-words
vectors-requires-clause-words c =
    let words = c.in_ok-words.words.items in
    subst (λ (t : ℕ). AreShortWords t (words_of c.as_slice.result.now)) (sym c.tracks-tracks.ensures.tracks)
    (subst (λ (vs : List (Vec ℕ)). AreShortWords c.args.table.now.tracks (words_of vs)) (sym c.as_slice.ensures.value) (words-short c.args.table.now c.tracks-tracks.ensures.valid c.args.start c.requires c.args.k (words_of words) c.in_ok-words.ensures))

pub returns-clause-first : goal.returns-clause-first
returns-clause-first c =
    let a = c.args.table.now in
    let words = c.in_ok-words.words.items in
    let found = words_of words in
    let size = length-words words in
    let words_of_len = c.in_ok-words.words.ok.0 in
    let no_wide : length found < c.args.k → HasNoWide a c.args.start =
    elim c.if-len-k.branch [
      | then-len-k+in_ok-letters+in_default w ↦ λ less. rw w.in_default.is at w.in_ok-letters.ensures.none
      | else-len-k w ↦ λ less. absurd (omega (arith, less, size, w.if-len-k.false, c.len.ensures, words_of_len))
    ] in
    let first = first-values a c.tracks-tracks.ensures.valid c.args.start c.requires c.args.k found c.in_ok-words.ensures no_wide in
    let values = c.in_ok-members.ensures ∙ ap (λ (t : ℕ). values_of t (words_of c.as_slice.result.now)) c.tracks-tracks.ensures.tracks ∙ ap (λ (vs : List (Vec ℕ)). values_of a.tracks (words_of vs)) c.as_slice.ensures.value in
    subst (IsFirstMembers a.tracks (SetOfState a c.args.start) c.args.k) (sym values) first

pub returns-clause-narrow : goal.returns-clause-narrow
returns-clause-narrow c =
    let a = c.args.table.now in
    let words = c.in_ok-words.words.items in
    let found = words_of words in
    let narrow = narrow-values a c.tracks-tracks.ensures.valid c.args.start c.requires c.args.k found c.in_ok-words.ensures in
    let values = c.in_ok-members.ensures ∙ ap (λ (t : ℕ). values_of t (words_of c.as_slice.result.now)) c.tracks-tracks.ensures.tracks ∙ ap (λ (vs : List (Vec ℕ)). values_of a.tracks (words_of vs)) c.as_slice.ensures.value in
    subst (AllByRecursion IsNarrow) (sym values) narrow
