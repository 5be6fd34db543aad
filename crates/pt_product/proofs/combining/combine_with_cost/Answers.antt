use Rattle.std.proofs.Common.{sym, subst}
use Rattle.pt_sets.specs.Automata.{SetOfState}
use Rattle.pt_sets.specs.Costs.{SamePair}
use Rattle.pt_sets.specs.Restricting.{widened}
use Rattle.pt_handles.specs.Handles.{SetOfHandle}
use Rattle.pt_handles.specs.declared.fault.OpFault.{OpFault}
use Rattle.pt_handles.specs.Refusing.{RefusedOnlyWhere}
use Rattle.pt_product.specs.Operations.{combined}
use Rattle.pt_product.proofs.Moving.{full-same, of_store-refused}
use Rattle.pt_product.proofs.combining.combine_with_cost.Goals as goal

pub returns-clause-err : goal.returns-clause-err
returns-clause-err g c =
    let home = g.I.Pass.Codes.home in
    let limit = g.I.Interner.limit_of c.args.store.now in
    let old = g.I.Pass.Codes.lists c.args.pass.now in
    let new = g.I.Pass.Codes.lists c.adopt.new.pass in
    let over_a = widened c.args.map_a.now (SetOfHandle old c.args.a) in
    let over_b = widened c.args.map_b.now (SetOfHandle old c.args.b) in
    let whole = combined c.args.op over_a over_b in
    let full = full-same home limit new c.in-Ok.table.tracks c.args.tracks (SetOfState c.in-Ok.table 0) whole c.in-Err-adopt.fault c.in-Ok.ensures.tracks c.in-Ok.ensures.set c.in-Err-adopt.ensures.full in
    subst (λ (fault : OpFault). RefusedOnlyWhere (SamePair c.args.tracks over_a over_b) c.args.tracks c.args.bound home limit new c.args.tracks whole fault) (sym c.from-in-Err-adopt.ensures)
    (of_store-refused (SamePair c.args.tracks over_a over_b) c.args.tracks c.args.bound home limit new c.args.tracks whole c.in-Err-adopt.fault full)
