use Rattle.std.proofs.Common.{length}
use Rattle.pt_handles.specs.Handles.{SetOfHandle}
use Rattle.pt_script.proofs.SetTellings.{tells-finite}
use Rattle.pt_script.proofs.telling.say_finite.Goals as goal

pub returns : goal.returns
returns g c bound =
    let lists = g.P.Codes.lists c.args.pass.now in
    let alike = c.queries_tell_of_sets_alone.ensures lists c.args.a (length c.args.p.now.parameters) c.requires.set in
    tells-finite c.args.scope.now bound c.args.p.now c.args.a.tracks (SetOfHandle lists c.args.a) c.requires.tracks alike c.in_ok-yes.yes c.in_ok-reply.reply.items c.in_ok-yes.ensures c.in_ok-reply.ensures
