use Rattle.pt_cells.proofs.Levels.{cells_in-is}
use Rattle.pt_cells.proofs.laws.segments_have_all_cells.Goals as goal

pub returns-clause-first : goal.returns-clause-first
returns-clause-first c = cells_in-is
