use Rattle.std.proofs.Common.{ℕ, List, Bool, Option, subst}
use Rattle.std.specs.Prelude.{IfSome, IfNone}
use Rattle.pt_query.specs.Spreads.{IsLeastDepth, HasNoFinal}
use Rattle.pt_query.proofs.Levels.{least-wide, no-wide}
use Rattle.pt_query.proofs.wide.wide_letters.Goals as goal

pub returns-in-Some-clause-some : goal.returns-in-Some-clause-some
returns-in-Some-clause-some c =
    let a = c.args.table.now in
    let row = c.in_ok-row.row.items in
    let at = subst (λ (f : Option ℕ). IfSome f (IsLeastDepth a c.as_slice.result.now)) c.in-Some.is c.in_ok-depth.ensures.some in
    least-wide a c.is_automaton.ensures c.args.start c.requires row c.in_ok-row.ensures c.in-Some.depth (subst (λ (r : List Bool). IsLeastDepth a r c.in-Some.depth) c.as_slice.ensures.value at)

pub returns-clause-none : goal.returns-clause-none
returns-clause-none c =
    let a = c.args.table.now in
    let row = c.in_ok-row.row.items in
    let at = subst (λ (f : Option ℕ). IfNone f (HasNoFinal a c.as_slice.result.now)) c.in-None.is c.in_ok-depth.ensures.none in
    no-wide a c.is_automaton.ensures c.args.start c.requires row c.in_ok-row.ensures (subst (HasNoFinal a) c.as_slice.ensures.value at)
