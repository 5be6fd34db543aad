use Rattle.std.proofs.Common.{rules, arith, ◌≡◌, ◌<◌, [], ◌∷◌, ◌++◌, length}
use Rattle.std.proofs.lemmas.Grind.{common_steps}
use Rattle.std.proofs.lemmas.List.{get_or_append_left, get_or_push, length_push}
use Rattle.pt_refine.proofs.Splitting.{numbered-more, pairs-from}
use Rattle.pt_refine.proofs.keys.split.Goals as goal

pub loop-q-preserved : goal.loop-q-preserved
loop-q-preserved c =
    let old = c.loop-q.invariant in
    let longer : c.push.new.self.items ≡ c.loop-q.numbers.items ++ c.in_ok-n.n ∷ [] = grind (arith, common_steps) in
    record {
      size = rw (longer, length_push c.loop-q.numbers.items c.in_ok-n.n) (omega arith);
      had = numbered-more old.had _ _ c.in_ok-n.n _ c.in_ok-n.ensures
          (rw longer (get_or_push c.loop-q.numbers.items c.in_ok-n.n 0 c.loop-q.q old.size))
          (λ i lt. let within : i < length c.loop-q.numbers.items = omega (arith, old.size) in rw longer (get_or_append_left c.loop-q.numbers.items (c.in_ok-n.n ∷ []) 0 i within));
    }

pub returns : goal.returns
returns c =
    let old = c.loop-q.invariant in
    rw c.len-count.ensures.len (pairs-from c.args.classes.now c.args.keys.now c.loop-q.numbers.items _ _ c.loop-q.q old.had (search rules) (search rules))
