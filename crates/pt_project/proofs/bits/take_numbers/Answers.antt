use Rattle.std.proofs.Common.{◌≡◌, ◌*◌, ◌<◌, ◌≤◌, length, get_or, refl, arith}
use Rattle.std.proofs.lemmas.Grind.{common_steps}
use Rattle.pt_project.proofs.WordLaws.{takes-more, takes-all-none, takes-all-members}
use Rattle.pt_project.proofs.bits.take_numbers.Goals as goal

pub loop-k-preserved : goal.loop-k-preserved
loop-k-preserved c =
    let words = c.loop-k.words.items in
    let inside : c.loop-k.k < length words = omega (arith, c.loop-k.invariant.count) in
    let word : c.index-word.result.now ≡ get_or words c.loop-k.k 0 = grind (arith, common_steps) in
    takes-more c.args.words.now.items c.loop-k.k c.index-word.result.now (64 * c.loop-k.k) words c.loop-k.numbers.items c.push_bits.new.numbers.items inside word refl
    c.in_ok-push_bits.ensures.increasing c.in_ok-push_bits.ensures.below c.in_ok-push_bits.ensures.members c.loop-k.invariant

pub returns-clause-none : goal.returns-clause-none
returns-clause-none c =
    let all : length c.args.words.now.items ≤ c.loop-k.k = omega (arith, c.loop-k-test.false, c.len-k-end.ensures) in
    takes-all-none c.args.words.now.items c.loop-k.k c.loop-k.words.items c.loop-k.numbers.items all c.loop-k.invariant

pub returns-clause-members : goal.returns-clause-members
returns-clause-members c =
    let all : length c.args.words.now.items ≤ c.loop-k.k = omega (arith, c.loop-k-test.false, c.len-k-end.ensures) in
    takes-all-members c.args.words.now.items c.loop-k.k c.loop-k.words.items c.loop-k.numbers.items all c.loop-k.invariant
