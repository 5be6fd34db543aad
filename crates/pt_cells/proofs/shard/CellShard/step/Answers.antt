use Rattle.std.proofs.Common.{◌≡◌, ◌∙◌, ◌++◌, ◌∷◌, [], ℕ, List, length, map, ap, arith}
use Rattle.std.proofs.lemmas.List.{length-map, map-append}
use Rattle.once_cell.specs.Once.{cell_name}
use Rattle.pt_cells.proofs.Walks.{IsOf-more}
use Rattle.pt_cells.proofs.shard.CellShard.step.Goals as goal

pub returns-clause-of : goal.returns-clause-of
returns-clause-of c =
    let seen = c.args.pass.now in
    let name : ℕ × List ℕ → ℕ = λ w. w.0 in
    let walked = c.in_ok-walked.walked in
    let found = cell_name c.in_ok-cell.cell.now in
    let items = c.push_reserved.ensures.items ∙ ap (λ ws. ws ++ walked ∷ []) c.in_ok-reserve.ensures.items in
    let cells : map name c.push_reserved.new.self.items ≡ seen.cells ++ found ∷ [] =
    ap (map name) items ∙ map-append name c.pass.inside.walked.items (walked ∷ []) ∙ ap (λ ns. ns ++ walked.0 ∷ []) (ap (λ s. s.cells) c.pass.view_is)
    ∙ ap (λ n. seen.cells ++ n ∷ []) c.in_ok-walked.ensures.cell in
    let codes : c.push.new.self ≡ seen.codes ++ c.in_ok-walked.shown ∷ [] =
    c.in_ok-push.ensures.ok ∙ ap (λ ns. ns ++ c.in_ok-walked.shown ∷ []) (ap (λ s. s.codes) c.pass.view_is) in
    let position : c.len-position.result ≡ length seen.cells =
    omega (arith, c.len-position.ensures, c.in_ok-reserve.ensures.len, length-map c.pass.inside.walked.items name, ap (λ s. length s.cells) c.pass.view_is) in
    let notes : c.pass.inside.notes ≡ seen.notes = ap (λ s. s.notes) c.pass.view_is in
    let segments : c.self.inside.segments ≡ c.args.self.now.segments = ap (λ s. s.segments) c.self.view_is in
    IsOf-more c.args.self.now seen c.cell.new.notes found c.in_ok-walked.shown _ _
    c.requires.of
    (rw segments at c.cell.ensures.fits)
    (rw notes at c.cell.ensures.kept)
    (rw position at c.in_ok-cell.ensures.cell)
    c.requires.room cells codes
