use Rattle.std.proofs.Common.{◌≡◌, ℕ, ◌<◌, ◌≤◌, List, ◌++◌, ◌∷◌, [], length, get_or, take, ap, sym, ◌∙◌, subst, arith, rules}
use Rattle.std.specs.Global.{Vec}
use Rattle.std.proofs.lemmas.List.{take_all}
use Rattle.pt_sets.specs.Words.{Vector, IsWord, value}
use Rattle.pt_query.specs.Queries.{vectors_of}
use Rattle.pt_query.specs.Fresh.{words_of, values_of}
use Rattle.pt_query.proofs.Listed.{words-at, short-at, vectors-push, values-take, length-words}
use Rattle.pt_query.proofs.listing.vectors.Goals as goal

pub short_value-requires-clause-word : goal.short_value-requires-clause-word
short_value-requires-clause-word c =
    let words = c.args.words.now in
    let i = c.loop-i.i in
    let inside : i < length words = search rules in
    let at : c.as_slice.result.now ≡ get_or (words_of words) i [] = c.as_slice.ensures.value ∙ ap (λ (v : Vec ℕ). v.items) c.index-words-i.is ∙ sym (words-at words i c.index-words-i.result inside) in
    subst (IsWord c.args.tracks) (sym at) (short-at c.args.tracks (words_of words) i c.requires.words (omega (arith, length-words words, inside))).0

pub short_value-requires-clause-few : goal.short_value-requires-clause-few
short_value-requires-clause-few c =
    let words = c.args.words.now in
    let i = c.loop-i.i in
    let inside : i < length words = search rules in
    let at : c.as_slice.result.now ≡ get_or (words_of words) i [] = c.as_slice.ensures.value ∙ ap (λ (v : Vec ℕ). v.items) c.index-words-i.is ∙ sym (words-at words i c.index-words-i.result inside) in
    let short = (short-at c.args.tracks (words_of words) i c.requires.words (omega (arith, length-words words, inside))).1 in
    let size = ap length at in
    omega (arith, short, size)

pub loop-i-preserved : goal.loop-i-preserved
loop-i-preserved c =
    let words = c.args.words.now in
    let t = c.args.tracks in
    let i = c.loop-i.i in
    let inside : i < length words = search rules in
    let at : c.as_slice.result.now ≡ get_or (words_of words) i [] = c.as_slice.ensures.value ∙ ap (λ (v : Vec ℕ). v.items) c.index-words-i.is ∙ sym (words-at words i c.index-words-i.result inside) in
    let old = c.loop-i.found.items in
    let z : c.in_ok-z.z.items ≡ value t (get_or (words_of words) i []) = c.in_ok-z.ensures ∙ ap (value t) at in
    ap vectors_of c.in_ok-push.ensures.items
    ∙ vectors-push old c.in_ok-z.z
    ∙ ap (λ (zs : List Vector). zs ++ c.in_ok-z.z.items ∷ []) c.loop-i.invariant
    ∙ ap (λ (y : Vector). values_of t (take i (words_of words)) ++ y ∷ []) z
    ∙ sym (values-take t i (words_of words) (omega (arith, length-words words, inside)))

pub returns : goal.returns
returns c =
    let words = c.args.words.now in
    let past = c.loop-i-test.false in
    c.loop-i.invariant ∙ ap (values_of c.args.tracks) (take_all c.loop-i.i (words_of words) (let size = length-words words in let more : length words ≤ c.loop-i.i = search rules in omega (arith, size, more)))
