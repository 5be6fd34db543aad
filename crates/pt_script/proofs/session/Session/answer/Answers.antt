use Rattle.std.proofs.lemmas.Result.{IfErr-weaker}
use Rattle.pt_script.proofs.Steps.{change-refused}
use Rattle.pt_script.proofs.session.Session.answer.Goals as goal

pub returns-in-SetLogic-clause-err : goal.returns-in-SetLogic-clause-err
returns-in-SetLogic-clause-err g c =
    IfErr-weaker c.change.result _ _
    (λ fault refuses. change-refused g.I.Pass.Codes.home (g.I.Interner.limit_of c.args.store.now) (g.I.Pass.Codes.lists c.args.pass.now) c.args.self.now c.args.command.now c.args.bound fault refuses) c.change.ensures.err
