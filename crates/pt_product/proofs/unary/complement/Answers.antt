use Rattle.std.proofs.Common.{◌≡◌, ap, ◌∙◌, arith}
use Rattle.pt_sets.specs.Automata.{Automaton, SetOfState}
use Rattle.pt_handles.specs.Handles.{Has, SetOfHandle, FullOnlyWhereLacking}
use Rattle.pt_product.specs.Derived.{outside}
use Rattle.pt_product.proofs.Moving.{Has-same, full-same}
use Rattle.pt_product.proofs.Expanded.{expands-within}
use Rattle.pt_product.proofs.Derivations.{ok-moved, err-moved, turned-start}
use Rattle.pt_product.proofs.unary.complement.Goals as goal

pub returns-in-Ok-turned_table-clause-ok : goal.returns-in-Ok-turned_table-clause-ok
returns-in-Ok-turned_table-clause-ok g c =
    let home = g.I.Pass.Codes.home in
    let new = g.I.Pass.Codes.lists c.adopt.new.pass in
    let t = c.args.a.tracks in
    let X = SetOfHandle (g.I.Pass.Codes.lists c.args.pass.now) c.args.a in
    let r = c.in-Ok-turned_table.turned in
    let start = c.in-Ok.expanded.1 in
    let same = turned-start t X c.in-Ok.expanded.0 r start c.turned_table.ensures.valid c.in-Ok.ensures c.in-Ok-turned_table.ensures.value in
    let tracks : r.tracks ≡ t = ap (λ (b : Automaton). b.tracks) c.in-Ok-turned_table.ensures.value ∙ c.in-Ok.ensures.tracks in
    ok-moved c.adopt.result (Has home new r.tracks (SetOfState r start)) (Has home new t (outside X)) (λ h has. Has-same home new r.tracks t (SetOfState r start) (outside X) h tracks same has) c.adopt.ensures.ok

pub returns-in-Ok-turned_table-clause-full : goal.returns-in-Ok-turned_table-clause-full
returns-in-Ok-turned_table-clause-full g c =
    let home = g.I.Pass.Codes.home in
    let limit = g.I.Interner.limit_of c.args.store.now in
    let new = g.I.Pass.Codes.lists c.adopt.new.pass in
    let t = c.args.a.tracks in
    let X = SetOfHandle (g.I.Pass.Codes.lists c.args.pass.now) c.args.a in
    let r = c.in-Ok-turned_table.turned in
    let start = c.in-Ok.expanded.1 in
    let same = turned-start t X c.in-Ok.expanded.0 r start c.turned_table.ensures.valid c.in-Ok.ensures c.in-Ok-turned_table.ensures.value in
    let tracks : r.tracks ≡ t = ap (λ (b : Automaton). b.tracks) c.in-Ok-turned_table.ensures.value ∙ c.in-Ok.ensures.tracks in
    err-moved c.adopt.result (FullOnlyWhereLacking home limit new r.tracks (SetOfState r start)) (FullOnlyWhereLacking home limit new t (outside X)) (λ fault full. full-same home limit new r.tracks t (SetOfState r start) (outside X) fault tracks same full) c.adopt.ensures.full

pub returns-in-Ok-turned_table-clause-offers : goal.returns-in-Ok-turned_table-clause-offers
returns-in-Ok-turned_table-clause-offers g c n cost =
    let X = SetOfHandle (g.I.Pass.Codes.lists c.args.pass.now) c.args.a in
    let few = expands-within c.args.a.tracks X c.in-Ok.expanded.0 c.in-Ok.expanded.1 c.turned_table.ensures.valid c.in-Ok.ensures n cost in
    let same : c.in-Ok-turned_table.turned.states ≡ c.in-Ok.expanded.0.states = ap (λ (b : Automaton). b.states) c.in-Ok-turned_table.ensures.value in
    let offers = c.adopt.ensures.offers in
    omega (arith, few, same, offers)
