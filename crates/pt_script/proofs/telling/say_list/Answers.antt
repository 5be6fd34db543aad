use Rattle.std.proofs.Common.{length}
use Rattle.pt_handles.specs.Handles.{SetOfHandle}
use Rattle.pt_query.specs.Queries.{vectors_of}
use Rattle.pt_script.proofs.SetTellings.{tells-list, refuses-list}
use Rattle.pt_script.proofs.telling.say_list.Goals as goal

pub returns-in_ok-members_of-in-Ok-clause-ok : goal.returns-in_ok-members_of-in-Ok-clause-ok
returns-in_ok-members_of-in-Ok-clause-ok g c bound =
    let lists = g.P.Codes.lists c.args.pass.now in
    let alike = c.queries_tell_of_sets_alone.ensures lists c.args.a (length c.args.p.now.parameters) c.requires.set.set in
    tells-list c.args.scope.now bound c.args.p.now c.args.a.tracks (SetOfHandle lists c.args.a) c.requires.set.tracks alike c.args.k (vectors_of c.in-Ok.members.items) c.in_ok-members_of-in-Ok.field-0.items
    c.in-Ok.ensures.first c.in-Ok.ensures.narrow (rw c.deref.ensures.value at c.in_ok-members_of-in-Ok.ensures)

pub returns-in-Err-Wide-clause-err : goal.returns-in-Err-Wide-clause-err
returns-in-Err-Wide-clause-err g c bound =
    let lists = g.P.Codes.lists c.args.pass.now in
    let alike = c.queries_tell_of_sets_alone.ensures lists c.args.a (length c.args.p.now.parameters) c.requires.set.set in
    rw c.in-Err-Wide.letters-is
    (refuses-list c.args.scope.now bound c.args.p.now c.args.a.tracks (SetOfHandle lists c.args.a) c.requires.set.tracks alike c.args.k c.in-Err-Wide.letters c.args.at (rw c.in-Err-Wide.field-0-is at c.in-Err-Wide.ensures.wide))
