use Rattle.std.proofs.Common.{[]}
use Rattle.std.proofs.lemmas.Result.{err_from_is_err_and}
use Rattle.pt_script.specs.State.{Standing}
use Rattle.pt_script.proofs.Steps.{subjects-step, subjects-asked, subjects-refused, subjects-not-told}
use Rattle.pt_script.proofs.session.Session.query_one.Goals as goal

pub returns-in_err-a-clause-err : goal.returns-in_err-a-clause-err
returns-in_err-a-clause-err g c =
    let from = err_from_is_err_and c.from_residual.result c.from_residual.ensures.1 in
    let s : Standing = record { scope = c.self.inside.scope; success = c.self.inside.success; model = c.self.inside.model; fault = c.self.inside.fault } in
    rw (from.1, from.2, ← c.self.view_is)
    (subjects-refused g.I.Pass.Codes.home (g.I.Interner.limit_of c.args.store.now) (g.I.Pass.Codes.lists c.one_set.new.pass) s c.args.command.now c.args.bound c.args.p.now [] c.requires.about c.in_err-a.field-0.0 c.in_err-a.ensures.err)

pub returns-in_err-reply-clause-err : goal.returns-in_err-reply-clause-err
returns-in_err-reply-clause-err g c =
    let from = err_from_is_err_and c.from_residual-in_err-reply.result c.from_residual-in_err-reply.ensures.1 in
    let s : Standing = record { scope = c.self.inside.scope; success = c.self.inside.success; model = c.self.inside.model; fault = c.self.inside.fault } in
    rw (from.1, from.2, ← c.self.view_is)
    (subjects-not-told g.I.Pass.Codes.home (g.I.Interner.limit_of c.args.store.now) (g.I.Pass.Codes.lists c.one_set.new.pass) s c.args.command.now c.args.bound c.args.p.now [] c.requires.about c.in_err-reply.field-0.0 c.in_ok-a.ensures.within (c.in_err-reply.ensures.err c.args.bound))

pub returns-clause-ok : goal.returns-clause-ok
returns-clause-ok g c =
    let s : Standing = record { scope = c.self.inside.scope; success = c.self.inside.success; model = c.self.inside.model; fault = c.self.inside.fault } in
    rw (← c.self.view_is)
    (subjects-step g.I.Pass.Codes.home (g.I.Interner.limit_of c.args.store.now) (g.I.Pass.Codes.lists c.one_set.new.pass) s c.args.command.now c.args.bound c.args.p.now [] c.requires.about c.in_ok-reply.reply.items c.in_ok-a.ensures.within (c.in_ok-reply.ensures.ok c.args.bound))

pub returns-clause-asked : goal.returns-clause-asked
returns-clause-asked g c =
    let s : Standing = record { scope = c.self.inside.scope; success = c.self.inside.success; model = c.self.inside.model; fault = c.self.inside.fault } in
    rw (← c.self.view_is)
    (subjects-asked g.I.Pass.Codes.home (g.I.Interner.limit_of c.args.store.now) (g.I.Pass.Codes.lists c.one_set.new.pass) s c.args.command.now c.args.bound c.args.p.now [] c.requires.about c.in_ok-a.ensures.asked)
