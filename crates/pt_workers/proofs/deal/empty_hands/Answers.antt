use Rattle.std.proofs.Common.{ℕ, List, length, ap, ◌∙◌, arith}
use Rattle.std.specs.Global.{Vec}
use Rattle.std.proofs.lemmas.List.{length_push}
use Rattle.pt_workers.specs.Works.{hand_of, all_of}
use Rattle.pt_workers.proofs.Dealing.{hand-push, all-push}
use Rattle.pt_workers.proofs.deal.empty_hands.Goals as goal

pub loop-preserved : goal.loop-preserved
loop-preserved c = record {
  count = (let longer = ap length c.in_ok-push.ensures.items in let size = length_push c.loop.hands.items c.new.result in omega (arith, longer, size, c.loop.invariant.count));
  empty = λ k. ap (λ (hands : List (Vec ℕ)). hand_of hands k) c.in_ok-push.ensures.items ∙ hand-push c.loop.hands.items c.new.result k c.new.ensures.items c.loop.invariant.empty;
  all = ap all_of c.in_ok-push.ensures.items ∙ all-push c.loop.hands.items c.new.result c.new.ensures.items c.loop.invariant.all;
}
