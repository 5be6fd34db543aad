use Rattle.std.proofs.Common.{◌≡◌, ℕ, List, length, ap, ◌∙◌, arith}
use Rattle.std.specs.Global.{Vec}
use Rattle.std.proofs.lemmas.List.{length_push}
use Rattle.pt_refine.specs.Dealing.{row_of}
use Rattle.pt_refine.proofs.Rows.{row-push}
use Rattle.pt_refine.proofs.chains.empty_rows.Goals as goal

pub loop-preserved : goal.loop-preserved
loop-preserved c = record {
  count = (let longer = ap length c.in_ok-push.ensures.items in let size = length_push c.loop.rows.items c.new.result in omega (arith, longer, size, c.loop.invariant.count));
  empty = λ y. ap (λ (rows : List (Vec ℕ)). row_of rows y) c.in_ok-push.ensures.items ∙ row-push c.loop.rows.items c.new.result y c.new.ensures.items c.loop.invariant.empty;
}
