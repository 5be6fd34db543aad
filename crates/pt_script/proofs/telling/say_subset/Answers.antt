use Rattle.std.proofs.Common.{length}
use Rattle.pt_handles.specs.Handles.{SetOfHandle}
use Rattle.pt_script.proofs.SetTellings.{second-set, tracks-equal, tells-subset, refuses-subset}
use Rattle.pt_script.proofs.telling.say_subset.Goals as goal

pub is_subset-requires-clause-tracks : goal.is_subset-requires-clause-tracks
is_subset-requires-clause-tracks g c =
    tracks-equal g.P.Codes.home (g.P.Codes.lists c.args.pass.now) c.args.scope.now c.args.p.now c.args.q.now c.args.a c.args.b c.requires.tracks c.requires.first c.requires.second

pub returns-in_ok-truth_of-in-Ok-clause-ok : goal.returns-in_ok-truth_of-in-Ok-clause-ok
returns-in_ok-truth_of-in-Ok-clause-ok g c =
    let home = g.P.Codes.home in
    let lists = g.P.Codes.lists c.args.pass.now in
    let other = second-set home lists c.args.scope.now c.args.p.now c.args.q.now c.args.a c.args.b c.requires.tracks c.requires.first c.requires.second in
    let alike = c.comparisons_tell_of_sets_alone.ensures lists c.args.a c.args.b (length c.args.p.now.parameters) c.requires.first.set other in
    tells-subset c.args.scope.now c.args.bound c.args.p.now c.args.q.now c.args.a.tracks (SetOfHandle lists c.args.a) (SetOfHandle lists c.args.b) c.requires.first.tracks alike c.in-Ok.yes c.in_ok-truth_of-in-Ok.field-0.items
    c.in-Ok.ensures.ok c.in-Ok.ensures.within c.in_ok-truth_of-in-Ok.ensures

pub returns-in-Err-States-clause-err : goal.returns-in-Err-States-clause-err
returns-in-Err-States-clause-err g c =
    let home = g.P.Codes.home in
    let lists = g.P.Codes.lists c.args.pass.now in
    let other = second-set home lists c.args.scope.now c.args.p.now c.args.q.now c.args.a c.args.b c.requires.tracks c.requires.first c.requires.second in
    let alike = c.comparisons_tell_of_sets_alone.ensures lists c.args.a c.args.b (length c.args.p.now.parameters) c.requires.first.set other in
    refuses-subset c.args.scope.now c.args.bound c.args.p.now c.args.q.now c.args.a.tracks (SetOfHandle lists c.args.a) (SetOfHandle lists c.args.b) c.requires.first.tracks alike c.args.at
    (rw c.in-Err-States.field-0-is at c.in-Err-States.ensures.above).1
