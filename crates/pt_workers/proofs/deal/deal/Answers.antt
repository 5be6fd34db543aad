use Rattle.std.proofs.Common.{◌≡◌, ◌<◌, ◌%◌, ℕ, List, length, take, sym, subst, ◌∙◌, arith}
use Rattle.std.specs.Prelude.{slice_index}
use Rattle.std.specs.List.Sorted.{IsPermutation}
use Rattle.std.proofs.lemmas.List.{length-take}
use Rattle.std.proofs.lemmas.Grind.{common_steps}
use Rattle.pt_workers.specs.Works.{hand_of, all_of, dealt}
use Rattle.pt_workers.proofs.Dealing.{take-next, each-more, once-more}
use Rattle.pt_workers.proofs.deal.deal.Goals as goal

pub loop-j-preserved : goal.loop-j-preserved
loop-j-preserved c =
    let numbers = c.args.numbers.now in
    let lt : c.loop-j.j < length c.args.numbers.now = c.loop-j-test.true in
    let old = c.loop-j.hands.items in
    let new = c.add.new.hands.items in
    let before = c.loop-j.invariant in
    let after = c.in_ok-add.ensures in
    let short : length (take c.loop-j.j c.args.numbers.now) ≡ c.loop-j.j = (let taken = length-take c.loop-j.j numbers in omega (arith, taken, lt)) in
    let inside : c.loop-j.j % c.args.count < length c.loop-j.hands.items = (let counted = before.count in grind (arith, common_steps)) in
    record {
      count = after.count ∙ before.count;
      each = λ k within. subst (λ (xs : List ℕ). hand_of c.add.new.hands.items k ≡ dealt c.args.count k 0 xs) (sym (take-next numbers c.loop-j.j lt))
          (each-more c.args.count k c.loop-j.j (take c.loop-j.j numbers) (slice_index numbers c.loop-j.j) old new short after.added after.others (before.each k within));
      once = subst (λ (xs : List ℕ). IsPermutation xs (all_of c.add.new.hands.items)) (sym (take-next numbers c.loop-j.j lt))
          (once-more old new (c.loop-j.j % c.args.count) (slice_index numbers c.loop-j.j) (take c.loop-j.j numbers) after.count inside after.added after.others before.once);
    }
