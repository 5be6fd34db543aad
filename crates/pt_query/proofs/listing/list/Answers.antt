use Rattle.std.proofs.Common.{ℕ, subst}
use Rattle.std.specs.Prelude.{ℤ}
use Rattle.std.specs.Global.{Vec}
use Rattle.pt_sets.specs.Automata.{SetOfState}
use Rattle.pt_sets.specs.Shortlex.{IsFirstMembers}
use Rattle.pt_handles.specs.Handles.{SetOfHandle}
use Rattle.pt_query.specs.Queries.{IsListCause, vectors_of}
use Rattle.pt_query.proofs.Causes.{ok-turned, err-moved, first-moved, list-moved}
use Rattle.pt_query.proofs.listing.list.Goals as goal

pub returns-clause-first : goal.returns-clause-first
returns-clause-first g c =
    let X = SetOfHandle (g.P.Codes.lists c.args.pass.now) c.args.a in
    let t = c.args.a.tracks in
    let e = c.in_ok-table.ensures in
    let S = SetOfState c.in_ok-table.table c.in_ok-table.start in
    let k = c.args.k in
    ok-turned (λ (zs : Vec (Vec ℤ)). IsFirstMembers c.in_ok-table.table.tracks S k (vectors_of zs.items)) (λ (zs : Vec (Vec ℤ)). IsFirstMembers t X k (vectors_of zs.items)) c.list_of.result
    (λ zs first. first-moved t k S X e.set (vectors_of zs.items) (subst (λ (n : ℕ). IsFirstMembers n S k (vectors_of zs.items)) e.tracks first)) c.list_of.ensures.first

pub returns-clause-wide : goal.returns-clause-wide
returns-clause-wide g c =
    let X = SetOfHandle (g.P.Codes.lists c.args.pass.now) c.args.a in
    let t = c.args.a.tracks in
    let e = c.in_ok-table.ensures in
    let S = SetOfState c.in_ok-table.table c.in_ok-table.start in
    let k = c.args.k in
    err-moved (IsListCause c.in_ok-table.table.tracks S k) (IsListCause t X k) c.list_of.result
    (λ fault cause. list-moved t k S X e.set fault (subst (λ (n : ℕ). IsListCause n S k fault) e.tracks cause)) c.list_of.ensures.wide
