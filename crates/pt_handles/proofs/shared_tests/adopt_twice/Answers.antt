use Rattle.pt_sets.specs.Automata.{SetOfState}
use Rattle.pt_store.specs.Interning.{Joins}
use Rattle.pt_handles.specs.Handles.{Has}
use Rattle.pt_handles.proofs.Reunited.{has-joined, one-joined}
use Rattle.pt_handles.proofs.shared_tests.adopt_twice.Goals as goal

pub returns-in-Ok-Ok-Ok-clause-one : goal.returns-in-Ok-Ok-Ok-clause-one
returns-in-Ok-Ok-Ok-clause-one g c =
    let table = c.args.table.now in
    let first = g.I.Pass.Codes.lists c.join-one.result.0.0 in
    let second = g.I.Pass.Codes.lists c.join-one.result.1.0 in
    let new = g.I.Pass.Codes.lists c.join-joined.new.pass in
    let joins : Joins first second new = rw c.in-Ok-Ok-Ok.is-0 at c.join-joined.ensures.lists in
    let one : Has g.I.Pass.Codes.home first table.tracks (SetOfState table c.args.start) c.in-Ok-Ok-Ok.one = rw c.in-Ok-Ok-Ok.is-1 at c.join-one.ensures.first.1 in
    let two : Has g.I.Pass.Codes.home second table.tracks (SetOfState table c.args.start) c.in-Ok-Ok-Ok.two = rw c.in-Ok-Ok-Ok.is-2 at c.join-one.ensures.second.1 in
    one-joined g.I.Pass.Codes.home first second new table.tracks (SetOfState table c.args.start) c.in-Ok-Ok-Ok.one c.in-Ok-Ok-Ok.two joins one two

pub returns-in-Ok-Ok-Ok-clause-known : goal.returns-in-Ok-Ok-Ok-clause-known
returns-in-Ok-Ok-Ok-clause-known g c =
    let table = c.args.table.now in
    let first = g.I.Pass.Codes.lists c.join-one.result.0.0 in
    let second = g.I.Pass.Codes.lists c.join-one.result.1.0 in
    let new = g.I.Pass.Codes.lists c.join-joined.new.pass in
    let joins : Joins first second new = rw c.in-Ok-Ok-Ok.is-0 at c.join-joined.ensures.lists in
    let one : Has g.I.Pass.Codes.home first table.tracks (SetOfState table c.args.start) c.in-Ok-Ok-Ok.one = rw c.in-Ok-Ok-Ok.is-1 at c.join-one.ensures.first.1 in
    has-joined g.I.Pass.Codes.home first second new table.tracks (SetOfState table c.args.start) c.in-Ok-Ok-Ok.one c.in-Ok-Ok-Ok.two joins one
