use Rattle.std.proofs.Common.{◌+◌, arith}
use Rattle.pt_cells.proofs.Levels.{top_above, top_below, place}
use Rattle.pt_cells.proofs.segments.place_of.Goals as goal

pub overflow_sub-level : goal.overflow_sub-level
overflow_sub-level c = top_above (c.args.position + 1024) c.ilog2-level.result c.ilog2-level.ensures.power_le c.ilog2-level.ensures.next_power_gt (omega arith)

pub size_of-requires : goal.size_of-requires
size_of-requires c = let below = top_below (c.args.position + 1024) c.ilog2-level.result c.ilog2-level.ensures.power_le c.ilog2-level.ensures.next_power_gt (omega arith) in omega (arith, below)

pub overflow_sub-result : goal.overflow_sub-result
overflow_sub-result c = (place (c.args.position + 1024) c.ilog2-level.result c.size_of.result c.ilog2-level.ensures.power_le c.ilog2-level.ensures.next_power_gt (omega arith) (omega arith) c.size_of.ensures).1

pub returns-clause-level : goal.returns-clause-level
returns-clause-level c = (place (c.args.position + 1024) c.ilog2-level.result c.size_of.result c.ilog2-level.ensures.power_le c.ilog2-level.ensures.next_power_gt (omega arith) (omega arith) c.size_of.ensures).0

pub returns-clause-offset : goal.returns-clause-offset
returns-clause-offset c = (place (c.args.position + 1024) c.ilog2-level.result c.size_of.result c.ilog2-level.ensures.power_le c.ilog2-level.ensures.next_power_gt (omega arith) (omega arith) c.size_of.ensures).2

pub returns-clause-position : goal.returns-clause-position
returns-clause-position c =
    let found = place (c.args.position + 1024) c.ilog2-level.result c.size_of.result c.ilog2-level.ensures.power_le c.ilog2-level.ensures.next_power_gt (omega arith) (omega arith) c.size_of.ensures in
    let is = c.size_of.ensures in
    omega (arith, found.1, is)
