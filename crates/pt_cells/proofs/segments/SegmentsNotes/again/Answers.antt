use Rattle.std.proofs.Common.{◌∙◌, ap}
use Rattle.pt_cells.specs.Places.{seen_of}
use Rattle.pt_cells.proofs.segments.SegmentsNotes.again.Goals as goal

pub returns-clause-same : goal.returns-clause-same
returns-clause-same c = ap seen_of c.again.ensures.same ∙ c.self.view_is

pub returns-clause-result : goal.returns-clause-result
returns-clause-result c = ap seen_of c.again.ensures.result ∙ c.self.view_is
