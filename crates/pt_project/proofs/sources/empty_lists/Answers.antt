use Rattle.std.proofs.Common.{ℕ, List, length, ap, ◌∙◌, arith}
use Rattle.std.specs.Global.{Vec}
use Rattle.std.proofs.lemmas.List.{length_push}
use Rattle.pt_project.specs.Closing.{row_of}
use Rattle.pt_project.proofs.Rows.{row-push}
use Rattle.pt_project.proofs.sources.empty_lists.Goals as goal

pub loop-preserved : goal.loop-preserved
loop-preserved c = record {
  count = (let longer = ap length c.in_ok-push.ensures.items in let size = length_push c.loop.lists.items c.new.result in omega (arith, longer, size, c.loop.invariant.count));
  empty = λ y. ap (λ (lists : List (Vec ℕ)). row_of lists y) c.in_ok-push.ensures.items ∙ row-push c.loop.lists.items c.new.result y c.new.ensures.items c.loop.invariant.empty;
}
