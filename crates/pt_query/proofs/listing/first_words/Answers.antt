use Rattle.std.proofs.Common.{◌≡◌, ℕ, ◌+◌, List, Bool, length, ap, sym, subst, arith, rules}
use Rattle.std.specs.Global.{Vec}
use Rattle.pt_query.specs.Fresh.{AreRows, FoundAll, words_of}
use Rattle.pt_query.proofs.Listed.{length-words, listed-longer}
use Rattle.pt_query.proofs.listing.first_words.Goals as goal

pub fill-requires-clause-rows : goal.fill-requires-clause-rows
fill-requires-clause-rows c = subst (AreRows c.args.table.now) (sym c.as_slice.ensures.value) c.loop-letters.invariant.rows

pub fill-requires-clause-enough : goal.fill-requires-clause-enough
fill-requires-clause-enough c = (let is = ap (λ (rs : List (Vec Bool)). length rs) c.as_slice.ensures.value in let count = c.loop-letters.invariant.count in omega (arith, is, count))

pub fill-requires-clause-listed : goal.fill-requires-clause-listed
fill-requires-clause-listed c = listed-longer c.args.table.now c.args.start c.loop-letters.letters (words_of c.loop-letters.found.items) c.loop-letters.invariant.listed c.loop-letters.invariant.all

pub returns-then-len-k : goal.returns-then-len-k
returns-then-len-k c =
    let found = c.fill.new.found.items in
    let size = length-words found in
    let full : length found ≡ c.args.k = search rules in
    let room = c.in_ok-fill.ensures.room in
    let more = c.loop-letters-test.true in
    record {
      listed = (c.loop-letters.letters + 1, c.in_ok-fill.ensures.listed, omega (arith, more));
      few = omega (arith, size, room);
      all = λ less. absurd (omega (arith, size, full, less));
    }

pub returns : goal.returns
returns c =
    let found = c.loop-letters.found.items in
    let i = c.loop-letters.invariant in
    let size = length-words found in
    let room = i.room in
    let past = c.loop-letters-test.false in
    let end = c.loop-letters.auto.letters-end in
    let last : c.loop-letters.letters ≡ 128 = omega (arith, past, end) in
    record {
      listed = (c.loop-letters.letters, i.listed, omega (arith, last));
      few = omega (arith, size, room);
      all = λ less. subst (λ (n : ℕ). FoundAll c.args.table.now c.args.start n (words_of found)) last i.all;
    }
