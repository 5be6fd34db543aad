use Rattle.std.proofs.Common.{[], ◌∷◌, length, arith}
use Rattle.std.proofs.lemmas.Result.{err_from_is_err_and}
use Rattle.pt_script.specs.State.{Standing}
use Rattle.pt_script.specs.Step.{conjunction_variables}
use Rattle.pt_script.proofs.AskedSets.{handle-at}
use Rattle.pt_script.proofs.Steps.{check-refused, check-asked, check-step}
use Rattle.pt_script.proofs.session.Session.check_sat.Goals as goal

pub returns-in_err-handles-clause-err : goal.returns-in_err-handles-clause-err
returns-in_err-handles-clause-err g c =
    let from = err_from_is_err_and c.from_residual.result c.from_residual.ensures.1 in
    let s : Standing = record { scope = c.self.inside.scope; success = c.self.inside.success; model = c.self.inside.model; fault = c.self.inside.fault } in
    rw (from.1, from.2, ← c.self.view_is)
    (check-refused g.I.Pass.Codes.home (g.I.Pass.Codes.lists c.evaluate_roots.new.pass) s c.args.command.now c.args.bound c.conjunction.result c.requires.kind c.conjunction.ensures.value
    (g.I.Interner.limit_of c.args.store.now) c.in_err-handles.field-0.0 c.in_err-handles.ensures.err)

pub least_solution-requires : goal.least_solution-requires
least_solution-requires g c =
    (handle-at g.I.Pass.Codes.home (g.I.Pass.Codes.lists c.evaluate_roots.new.pass) c.self.inside.scope.formula (c.conjunction.result ∷ []) c.in_ok-handles.handles.items 0 c.index.result.now c.in_ok-handles.ensures.ok (omega arith) c.index.ensures).known

pub returns-clause-ok : goal.returns-clause-ok
returns-clause-ok g c =
    let s : Standing = record { scope = c.self.inside.scope; success = c.self.inside.success; model = c.self.inside.model; fault = c.self.inside.fault } in
    let has = handle-at g.I.Pass.Codes.home (g.I.Pass.Codes.lists c.evaluate_roots.new.pass) c.self.inside.scope.formula (c.conjunction.result ∷ []) c.in_ok-handles.handles.items 0 c.index.result.now c.in_ok-handles.ensures.ok (omega arith) c.index.ensures in
    let law = c.queries_tell_of_sets_alone.ensures (g.I.Pass.Codes.lists c.evaluate_roots.new.pass) c.index.result.now (length (conjunction_variables c.self.inside.scope)) in
    rw (← c.self.view_is)
    (check-step g.I.Pass.Codes.home (g.I.Pass.Codes.lists c.evaluate_roots.new.pass) s c.args.command.now c.args.bound c.conjunction.result c.requires.kind c.conjunction.ensures.value
    c.index.result.now c.in_ok-found.found c.in_ok-reply.reply.items c.in_ok-handles.ensures.within has law c.in_ok-found.ensures.some c.in_ok-found.ensures.none c.in_ok-reply.ensures)

pub returns-clause-asked : goal.returns-clause-asked
returns-clause-asked g c =
    let s : Standing = record { scope = c.self.inside.scope; success = c.self.inside.success; model = c.self.inside.model; fault = c.self.inside.fault } in
    rw (← c.self.view_is)
    (check-asked g.I.Pass.Codes.home (g.I.Pass.Codes.lists c.evaluate_roots.new.pass) s c.args.command.now c.args.bound c.conjunction.result c.requires.kind c.conjunction.ensures.value c.in_ok-handles.ensures.asked)
