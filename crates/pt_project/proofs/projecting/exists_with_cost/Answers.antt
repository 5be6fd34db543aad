use Rattle.std.proofs.Common.{ℕ, ◌-◌, List, sym, subst}
use Rattle.pt_sets.specs.Automata.{SetOfState}
use Rattle.pt_sets.specs.Costs.{RestrictsBy, SameFamily}
use Rattle.pt_handles.specs.Handles.{SetOfHandle}
use Rattle.pt_handles.specs.declared.fault.OpFault.{OpFault}
use Rattle.pt_handles.specs.Refusing.{RefusedOnlyWhere}
use Rattle.pt_project.specs.Projecting.{projected, without}
use Rattle.pt_project.proofs.Moving.{Has-same, full-same, of_store-refused}
use Rattle.pt_project.proofs.projecting.exists_with_cost.Goals as goal

pub returns-in-Ok-adopt-clause-ok : goal.returns-in-Ok-adopt-clause-ok
returns-in-Ok-adopt-clause-ok g c =
    let old = g.I.Pass.Codes.lists c.args.pass.now in
    Has-same g.I.Pass.Codes.home (g.I.Pass.Codes.lists c.adopt.new.pass) c.in-Ok.table.tracks (c.args.a.tracks - 1) (SetOfState c.in-Ok.table 0) (projected c.args.track (SetOfHandle old c.args.a)) c.in-Ok-adopt.handle
    c.in-Ok.ensures.tracks c.in-Ok.ensures.set c.in-Ok-adopt.ensures.ok

pub returns-clause-err : goal.returns-clause-err
returns-clause-err g c =
    let home = g.I.Pass.Codes.home in
    let limit = g.I.Interner.limit_of c.args.store.now in
    let old = g.I.Pass.Codes.lists c.args.pass.now in
    let new = g.I.Pass.Codes.lists c.adopt.new.pass in
    let n = c.args.a.tracks - 1 in
    let X = SetOfHandle old c.args.a in
    let family : List ℕ → List ℕ → Type 0 = SameFamily (RestrictsBy c.args.a.tracks (without c.args.track)) c.args.a.tracks X in
    let full = full-same home limit new c.in-Ok.table.tracks n (SetOfState c.in-Ok.table 0) (projected c.args.track X) c.in-Err-adopt.fault c.in-Ok.ensures.tracks c.in-Ok.ensures.set c.in-Err-adopt.ensures.full in
    subst (λ (fault : OpFault). RefusedOnlyWhere family n c.args.bound home limit new n (projected c.args.track X) fault) (sym c.from-in-Err-adopt.ensures)
    (of_store-refused family n c.args.bound home limit new n (projected c.args.track X) c.in-Err-adopt.fault full)
