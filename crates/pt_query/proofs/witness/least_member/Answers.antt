use Rattle.std.proofs.Common.{ℕ, subst}
use Rattle.std.specs.Prelude.{ℤ}
use Rattle.std.specs.Global.{Vec}
use Rattle.pt_sets.specs.Automata.{SetOfState}
use Rattle.pt_sets.specs.Shortlex.{IsLeastMember}
use Rattle.pt_handles.specs.Handles.{SetOfHandle}
use Rattle.pt_query.specs.Queries.{IsWideCause}
use Rattle.pt_query.proofs.Causes.{least-moved, wide-moved, some-moved, err-moved}
use Rattle.pt_query.proofs.witness.least_member.Goals as goal

pub returns-clause-least : goal.returns-clause-least
returns-clause-least g c =
    let X = SetOfHandle (g.P.Codes.lists c.args.pass.now) c.args.a in
    let t = c.args.a.tracks in
    let e = c.in_ok-table.ensures in
    let S = SetOfState c.in_ok-table.table c.in_ok-table.start in
    some-moved (λ (z : Vec ℤ). IsLeastMember c.in_ok-table.table.tracks S z.items) (λ (z : Vec ℤ). IsLeastMember t X z.items) c.least_of.result
    (λ z least. least-moved t S X e.set z.items (subst (λ (n : ℕ). IsLeastMember n S z.items) e.tracks least)) c.least_of.ensures.least

pub returns-clause-wide : goal.returns-clause-wide
returns-clause-wide g c =
    let X = SetOfHandle (g.P.Codes.lists c.args.pass.now) c.args.a in
    let t = c.args.a.tracks in
    let e = c.in_ok-table.ensures in
    let S = SetOfState c.in_ok-table.table c.in_ok-table.start in
    err-moved (IsWideCause c.in_ok-table.table.tracks S) (IsWideCause t X) c.least_of.result
    (λ fault cause. wide-moved t S X e.set fault (subst (λ (n : ℕ). IsWideCause n S fault) e.tracks cause)) c.least_of.ensures.wide
