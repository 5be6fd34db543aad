use Rattle.pt_main.proofs.Stepping.{may_fail}
use Rattle.pt_main.proofs.Endings.{refused_by}
use Rattle.pt_main.proofs.script.answer_command.Goals as goal

pub returns-in-None-clause-told : goal.returns-in-None-clause-told
returns-in-None-clause-told g c =
    let fails = may_fail c.args.session.now c.args.command c.args.given.states c.in-Err.fault c.in-None.ensures c.requires.going c.in-Err.ensures.executes.0 in
    refused_by c.args.session.now c.args.command c.args.given.states c.in-Err.fault c.execute.new.self (g.K.Sink.written c.args.sink.now) (g.K.Sink.written c.refuse_command.new.sink) c.refuse_command.result fails c.refuse_command.ensures.told
