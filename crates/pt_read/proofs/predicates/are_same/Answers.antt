use Rattle.std.proofs.Common.{sym}
use Rattle.pt_read.proofs.SortLemmas.{other-lengths}
use Rattle.pt_read.proofs.predicates.are_same.Goals as goal

pub returns-then-xs-ys : goal.returns-then-xs-ys
returns-then-xs-ys c = sym (other-lengths c.args.xs.now c.args.ys.now c.if-xs-ys.true)
