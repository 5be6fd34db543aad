use Rattle.std.proofs.Common.{◌<◌, length, ap, sym, ◌∙◌, arith}
use Rattle.std.specs.Prelude.{Some}
use Rattle.std.proofs.lemmas.Option.{slice_get-get_or}
use Rattle.pt_eval.proofs.tests.solve.Goals as goal

pub expand-requires : goal.expand-requires
expand-requires g c =
    let handles = c.in-Ok.handles.items in
    let inside : 0 < length c.in-Ok.handles.items = let count = c.in-Ok.ensures.ok.count in omega (arith, count) in
    (c.in-Ok.ensures.ok.each 0 c.index.result.now (slice_get-get_or handles 0 c.index.result.now inside ∙ ap Some (sym c.index.ensures))).known

pub expand-requires-in-Ok : goal.expand-requires-in-Ok
expand-requires-in-Ok g c =
    let handles = c.in-Ok.handles.items in
    let inside : 1 < length c.in-Ok.handles.items = let count = c.in-Ok.ensures.ok.count in omega (arith, count) in
    (c.in-Ok.ensures.ok.each 1 c.index-in-Ok.result.now (slice_get-get_or handles 1 c.index-in-Ok.result.now inside ∙ ap Some (sym c.index-in-Ok.ensures))).known
