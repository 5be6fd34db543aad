use Rattle.std.proofs.Common.{length}
use Rattle.pt_handles.specs.Handles.{SetOfHandle}
use Rattle.pt_script.proofs.SetTellings.{tells-states}
use Rattle.pt_script.proofs.telling.say_states.Goals as goal

pub returns : goal.returns
returns g c bound =
    let lists = g.P.Codes.lists c.args.pass.now in
    let alike = c.queries_tell_of_sets_alone.ensures lists c.args.a (length c.args.p.now.parameters) c.requires.set in
    tells-states c.args.scope.now bound c.args.p.now c.args.a.tracks (SetOfHandle lists c.args.a) c.requires.tracks alike c.in_ok-count.count c.in_ok-reply.reply.items c.in_ok-count.ensures c.in_ok-reply.ensures
