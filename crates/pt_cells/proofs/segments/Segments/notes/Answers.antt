use Rattle.std.proofs.Common.{ℕ, List, subst}
use Rattle.pt_cells.specs.Places.{seen_of, AreNotesOf}
use Rattle.pt_cells.proofs.segments.Segments.notes.Goals as goal

pub returns : goal.returns
returns c = subst (λ (names : List ℕ). AreNotesOf (seen_of c.notes.result) names) c.self.view_is c.notes.ensures
