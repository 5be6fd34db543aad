use Rattle.std.proofs.Common.{◌≡◌, ℕ, List, subst, arith}
use Rattle.pt_sets.specs.Automata.{SetOfState}
use Rattle.pt_sets.specs.Restricting.{widened}
use Rattle.pt_handles.specs.Handles.{Has, SetOfHandle, FullOnlyWhereLacking}
use Rattle.pt_product.specs.Derived.{IsWide}
use Rattle.pt_product.proofs.Moving.{Has-same, full-same}
use Rattle.pt_product.proofs.Expanded.{expands-within}
use Rattle.pt_product.proofs.Derivations.{ok-moved, err-moved, wide-start-set}
use Rattle.pt_product.proofs.unary.widen.Goals as goal

pub returns-in-Ok-wide_table-clause-ok : goal.returns-in-Ok-wide_table-clause-ok
returns-in-Ok-wide_table-clause-ok g c =
    let home = g.I.Pass.Codes.home in
    let new = g.I.Pass.Codes.lists c.adopt.new.pass in
    let m = c.args.map.now in
    let t = c.args.tracks in
    let X = SetOfHandle (g.I.Pass.Codes.lists c.args.pass.now) c.args.a in
    let a = c.in-Ok.expanded.0 in
    let r = c.in-Ok-wide_table.wide in
    let start = c.in-Ok.expanded.1 in
    let side = c.in-Ok-new.side in
    let one : IsWide a m side.tracks r = subst (λ (n : List ℕ). IsWide a n side.tracks r) c.in-Ok-new.ensures.map c.in-Ok-wide_table.ensures.wide in
    let made : IsWide a m t r = subst (λ (n : ℕ). IsWide a m n r) c.in-Ok-new.ensures.tracks one in
    let same = wide-start-set c.args.a.tracks t m X a r start c.wide_table.ensures.valid c.in-Ok.ensures c.requires.map made in
    ok-moved c.adopt.result (Has home new r.tracks (SetOfState r start)) (Has home new t (widened m X)) (λ h has. Has-same home new r.tracks t (SetOfState r start) (widened m X) h made.tracks same has) c.adopt.ensures.ok

pub returns-in-Ok-wide_table-clause-full : goal.returns-in-Ok-wide_table-clause-full
returns-in-Ok-wide_table-clause-full g c =
    let home = g.I.Pass.Codes.home in
    let limit = g.I.Interner.limit_of c.args.store.now in
    let new = g.I.Pass.Codes.lists c.adopt.new.pass in
    let m = c.args.map.now in
    let t = c.args.tracks in
    let X = SetOfHandle (g.I.Pass.Codes.lists c.args.pass.now) c.args.a in
    let a = c.in-Ok.expanded.0 in
    let r = c.in-Ok-wide_table.wide in
    let start = c.in-Ok.expanded.1 in
    let side = c.in-Ok-new.side in
    let one : IsWide a m side.tracks r = subst (λ (n : List ℕ). IsWide a n side.tracks r) c.in-Ok-new.ensures.map c.in-Ok-wide_table.ensures.wide in
    let made : IsWide a m t r = subst (λ (n : ℕ). IsWide a m n r) c.in-Ok-new.ensures.tracks one in
    let same = wide-start-set c.args.a.tracks t m X a r start c.wide_table.ensures.valid c.in-Ok.ensures c.requires.map made in
    err-moved c.adopt.result (FullOnlyWhereLacking home limit new r.tracks (SetOfState r start)) (FullOnlyWhereLacking home limit new t (widened m X)) (λ fault full. full-same home limit new r.tracks t (SetOfState r start) (widened m X) fault made.tracks same full) c.adopt.ensures.full

pub returns-in-Ok-wide_table-clause-offers : goal.returns-in-Ok-wide_table-clause-offers
returns-in-Ok-wide_table-clause-offers g c n cost =
    let X = SetOfHandle (g.I.Pass.Codes.lists c.args.pass.now) c.args.a in
    let few = expands-within c.args.a.tracks X c.in-Ok.expanded.0 c.in-Ok.expanded.1 c.wide_table.ensures.valid c.in-Ok.ensures n cost in
    let same = c.in-Ok-wide_table.ensures.wide.states in
    let offers = c.adopt.ensures.offers in
    omega (arith, few, same, offers)
