use Rattle.std.proofs.Common.{arith}
use Rattle.pt_refine.proofs.Layouts.{layout-count}
use Rattle.pt_refine.proofs.partition.Partition.count.Goals as goal

pub overflow_cast-result : goal.overflow_cast-result
overflow_cast-result c =
    let some = layout-count c.requires.layout in
    let few = c.requires.few in
    let len = c.args.self.now.starts.ok.0 in
    let is = c.len.ensures in
    omega arith
