use Rattle.std.proofs.Common.{arith}
use Rattle.pt_cells.proofs.Levels.{size_small}
use Rattle.pt_cells.proofs.segments.size_of.Goals as goal

pub returns : goal.returns
returns c = let small = size_small c.args.level c.requires in omega (arith, small)
