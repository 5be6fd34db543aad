use Rattle.std.proofs.Common.{◌≡◌, ℕ, List, Option, Some, sym, subst}
use Rattle.pt_cells.specs.Places.{seen_of, AreNotesOf, name_from}
use Rattle.pt_cells.proofs.segments.Segments.cell.Goals as goal

pub cell-requires-clause-fits : goal.cell-requires-clause-fits
cell-requires-clause-fits c =
    subst (λ (names : List ℕ). AreNotesOf (seen_of c.notes.inside.fields) names) (sym c.self.view_is)
    (subst (λ (seen : List (ℕ × Option (List ℕ))). AreNotesOf seen c.args.self.now) (sym c.notes.view_is) c.requires.fits)

pub returns-clause-fits : goal.returns-clause-fits
returns-clause-fits c = subst (λ (names : List ℕ). AreNotesOf (seen_of c.cell.new.notes) names) c.self.view_is c.cell.ensures.fits

pub returns-clause-kept : goal.returns-clause-kept
returns-clause-kept c = λ p n h. c.cell.ensures.kept p n (subst (λ (seen : List (ℕ × Option (List ℕ))). name_from 1024 seen p ≡ Some n) (sym c.notes.view_is) h)
