use Rattle.std.proofs.Common.{◌≡◌, ◌∙◌, ℕ, List, Option, Some, IfOk, ap, sym, subst}
use Rattle.once_cell.specs.Once.{cell_name}
use Rattle.pt_cells.specs.Places.{seen_of, known_in, known_name, name_from}
use Rattle.pt_cells.proofs.Levels.{name_from-at, name_from-keeps}
use Rattle.pt_cells.proofs.segments.SegmentFields.cell.Goals as goal

pub returns-clause-kept : goal.returns-clause-kept
returns-clause-kept c = name_from-keeps (seen_of c.args.notes.now) (seen_of c.cell_in.new.notes) c.cell_in.ensures.kept 1024

pub returns-clause-cell : goal.returns-clause-cell
returns-clause-cell c =
    let seen : List (ℕ × Option (List ℕ)) = seen_of c.cell_in.new.notes in
    let level = c.place_of-level.result.0 in
    let offset = c.place_of-level.result.1 in
    let at : name_from 1024 seen c.args.position ≡ known_name (known_in seen level) offset =
    ap (λ (p : ℕ). name_from 1024 seen p) c.place_of-level.ensures.position ∙ name_from-at seen 1024 level offset c.place_of-level.ensures.level c.place_of-level.ensures.offset in
    subst (λ (name : Option ℕ). IfOk c.cell_in.result (λ cell. name ≡ Some (cell_name cell.now))) (sym at) c.cell_in.ensures.cell
