use Rattle.std.proofs.Common.{◌≡◌, sym, ◌∙◌}
use Rattle.std.proofs.lemmas.Result.{err_from_is_err_and}
use Rattle.std.specs.Cmp.Lexicographic.{same_text}
use Rattle.pt_formula.specs.Formulas.{variables_of}
use Rattle.pt_script.proofs.AskedSets.{own-set, map-for, set-for, full-for}
use Rattle.pt_script.proofs.asked.widen_body.Goals as goal

pub returns-then-eq-clause-ok : goal.returns-then-eq-clause-ok
returns-then-eq-clause-ok g c =
    let inner : c.variables-inner.result.now ≡ variables_of c.args.scope.now.formula c.args.predicate.now.body = rw c.formula.ensures.value at c.variables-inner.ensures.free in
    let same = same_text c.variables-inner.result.now c.as_slice-outer.result.now c.if-eq.ensures in
    own-set c.handles_of_solutions_are_widened_by_tracks.ensures.own g.I.Pass.Codes.home (g.I.Pass.Codes.lists c.args.pass.now) c.args.scope.now c.args.predicate.now c.args.body
    (sym inner ∙ same ∙ c.as_slice-outer.ensures) c.requires.body

pub widen-requires-clause-map : goal.widen-requires-clause-map
widen-requires-clause-map g c κs within =
    let inner : c.variables-inner.result.now ≡ variables_of c.args.scope.now.formula c.args.predicate.now.body = rw c.formula.ensures.value at c.variables-inner.ensures.free in
    map-for c.args.scope.now c.args.predicate.now c.variables-inner.result.now c.as_slice-outer.result.now c.deref.result.now inner c.as_slice-outer.ensures (c.deref.ensures.value ∙ c.in_ok-map.ensures)
    c.handles_of_solutions_are_widened_by_tracks.ensures.maps c.requires.fits c.variables-inner.ensures.increasing c.args.body.tracks c.requires.body.tracks

pub returns-in_err-handle-clause-err : goal.returns-in_err-handle-clause-err
returns-in_err-handle-clause-err g c =
    let inner : c.variables-inner.result.now ≡ variables_of c.args.scope.now.formula c.args.predicate.now.body = rw c.formula.ensures.value at c.variables-inner.ensures.free in
    let from = err_from_is_err_and c.from_residual-in_err-handle.result c.from_residual-in_err-handle.ensures.1 in
    rw (from.1, from.2)
    (full-for c.args.scope.now c.args.predicate.now c.variables-inner.result.now c.as_slice-outer.result.now c.deref.result.now inner c.as_slice-outer.ensures (c.deref.ensures.value ∙ c.in_ok-map.ensures)
    c.handles_of_solutions_are_widened_by_tracks.ensures.widen g.I.Pass.Codes.home (g.I.Interner.limit_of c.args.store.now) (g.I.Pass.Codes.lists c.args.pass.now) (g.I.Pass.Codes.lists c.widen.new.pass) c.args.body
    c.in_err-handle.field-0.0 c.requires.body.set c.in_err-handle.ensures.full)

pub returns-clause-ok : goal.returns-clause-ok
returns-clause-ok g c =
    let inner : c.variables-inner.result.now ≡ variables_of c.args.scope.now.formula c.args.predicate.now.body = rw c.formula.ensures.value at c.variables-inner.ensures.free in
    set-for c.args.scope.now c.args.predicate.now c.variables-inner.result.now c.as_slice-outer.result.now c.deref.result.now inner c.as_slice-outer.ensures (c.deref.ensures.value ∙ c.in_ok-map.ensures)
    c.handles_of_solutions_are_widened_by_tracks.ensures.widen g.I.Pass.Codes.home (g.I.Pass.Codes.lists c.args.pass.now) (g.I.Pass.Codes.lists c.widen.new.pass) c.args.body c.in_ok-handle.handle c.requires.body.set c.in_ok-handle.ensures.ok

pub returns-clause-offers : goal.returns-clause-offers
returns-clause-offers g c n few =
    c.in_ok-handle.ensures.offers n (c.handles_of_solutions_are_widened_by_tracks.ensures.few g.I.Pass.Codes.home (g.I.Pass.Codes.lists c.args.pass.now) c.args.scope.now.formula c.args.predicate.now.body n c.args.body c.requires.body few)

pub returns-in_err-handle-clause-offers : goal.returns-in_err-handle-clause-offers
returns-in_err-handle-clause-offers g c n few =
    c.in_err-handle.ensures.offers n (c.handles_of_solutions_are_widened_by_tracks.ensures.few g.I.Pass.Codes.home (g.I.Pass.Codes.lists c.args.pass.now) c.args.scope.now.formula c.args.predicate.now.body n c.args.body c.requires.body few)
