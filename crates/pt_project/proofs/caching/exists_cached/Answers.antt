use Rattle.std.proofs.Common.{◌≡◌, ℕ, ◌-◌, ◌<◌, ◌≤◌, ◌∷◌, take, Contains, IfNone, ap, sym, ◌∙◌, subst, refl}
use Rattle.std.specs.Map.{lookup}
use Rattle.pt_sets.specs.Costs.{RestrictsBy, SameFamily, CostIs}
use Rattle.pt_memo.specs.Memos.{OneMemo, one_memo, counted}
use Rattle.pt_handles.specs.declared.handle.Handle.{Handle}
use Rattle.pt_handles.specs.Handles.{Has, SetOfHandle}
use Rattle.pt_project.specs.contracts.caching.ProjectionPartialEq.TheImpl as compared
use Rattle.pt_project.specs.Projecting.{projected, without}
use Rattle.pt_project.specs.Caching.{projection}
use Rattle.pt_project.proofs.Cached.{built, good-longer, good-more, exact, found-right, cost-within, cost-above, given, given-none, if_none}
use Rattle.pt_project.proofs.caching.exists_cached.Goals as goal

pub returns-in-Some-within-clause-ok : goal.returns-in-Some-within-clause-ok
returns-in-Some-within-clause-ok g c =
    let home = g.I.Pass.Codes.home in
    let old = g.I.Pass.Codes.lists c.args.pass.now in
    let entry = c.in-Some.ensures.entry in
    let right = found-right home old c.args.a c.args.track c.args.memo.now.entries entry.0 c.in-Some.answer (exact (projection c.args.a c.args.track) entry.0 entry.2) c.requires.good entry.1 in
    let gives = given c.in-Some.answer c.args.bound c.in-Some-within.handle c.in-Some-within.ensures.within c.in-Some-within.ensures.above in
    subst (λ (h : Handle). Has home old (c.args.a.tracks - 1) (projected c.args.track (SetOfHandle old c.args.a)) h) gives.0 right.set

pub returns-in-Some-within-clause-within : goal.returns-in-Some-within-clause-within
returns-in-Some-within-clause-within g c =
    let home = g.I.Pass.Codes.home in
    let old = g.I.Pass.Codes.lists c.args.pass.now in
    let entry = c.in-Some.ensures.entry in
    let right = found-right home old c.args.a c.args.track c.args.memo.now.entries entry.0 c.in-Some.answer (exact (projection c.args.a c.args.track) entry.0 entry.2) c.requires.good entry.1 in
    let gives = given c.in-Some.answer c.args.bound c.in-Some-within.handle c.in-Some-within.ensures.within c.in-Some-within.ensures.above in
    cost-within c.args.a c.args.track (SetOfHandle old c.args.a) c.in-Some.answer.cost c.args.bound right.cost gives.1

pub returns-in-Some-within-clause-good : goal.returns-in-Some-within-clause-good
returns-in-Some-within-clause-good g c p found there = c.requires.good p found (c.find.ensures.members (p, found) there)

pub returns-in-None-clause-err : goal.returns-in-None-clause-err
returns-in-None-clause-err g c =
    let home = g.I.Pass.Codes.home in
    let old = g.I.Pass.Codes.lists c.args.pass.now in
    let entry = c.in-Some.ensures.entry in
    let right = found-right home old c.args.a c.args.track c.args.memo.now.entries entry.0 c.in-Some.answer (exact (projection c.args.a c.args.track) entry.0 entry.2) c.requires.good entry.1 in
    (refl, cost-above c.args.a c.args.track (SetOfHandle old c.args.a) c.in-Some.answer.cost c.args.bound right.cost (given-none c.in-Some.answer c.args.bound c.in-None.ensures.within))

pub returns-in-None-clause-good : goal.returns-in-None-clause-good
returns-in-None-clause-good g c p found there = c.requires.good p found (c.find.ensures.members (p, found) there)

pub returns-in-Err-clause-good : goal.returns-in-Err-clause-good
returns-in-Err-clause-good g c p found there =
    good-longer c.longer_lists_know.ensures g.I.Pass.Codes.home (g.I.Pass.Codes.lists c.args.pass.now) (g.I.Pass.Codes.lists c.exists_with_cost.new.pass) c.exists_with_cost.ensures.extends c.args.memo.now.entries c.requires.good p found
    (c.find.ensures.members (p, found) there)

pub returns-in-Ok-keep-clause-good : goal.returns-in-Ok-keep-clause-good
returns-in-Ok-keep-clause-good g c =
    let home = g.I.Pass.Codes.home in
    let old = g.I.Pass.Codes.lists c.args.pass.now in
    let new = g.I.Pass.Codes.lists c.exists_with_cost.new.pass in
    let law = c.longer_lists_know.ensures in
    let longer = c.exists_with_cost.ensures.extends in
    let answer = c.in-Ok.answer in
    let before = good-longer law home old new longer c.args.memo.now.entries c.requires.good in
    let right = built law home old new longer c.args.a c.args.track answer c.requires.known c.requires.track c.in-Ok.ensures.ok c.in-Ok.ensures.cost in
    good-more home new (projection c.args.a c.args.track) answer c.find.new.self.entries c.keep.new.self.entries c.in-Ok-keep.ensures.members (λ p found there. before p found (c.find.ensures.members (p, found) there)) right

pub returns-in-Ok-keep-clause-new : goal.returns-in-Ok-keep-clause-new
returns-in-Ok-keep-clause-new g c =
    let X = SetOfHandle (g.I.Pass.Codes.lists c.args.pass.now) c.args.a in
    let t = c.args.a.tracks in
    let asked = projection c.args.a c.args.track in
    let memo = c.args.memo.now in
    let answer = c.in-Ok.answer in
    let unknown : c.find.new.self ≡ memo = subst (λ o. IfNone o (c.find.new.self ≡ memo)) c.in_default.is c.find.ensures.unknown in
    let kept = c.in-Ok-keep.ensures.ok ∙ ap (λ m. one_memo ((asked, answer) ∷ take (m.capacity - 1) m.entries) m.capacity (counted m.built answer.cost)) unknown in
    if_none (lookup (compared.eq-value.it asked) memo.entries)
    ((cost : ℕ) × CostIs (SameFamily (RestrictsBy t (without c.args.track)) t X) (t - 1) cost × (c.keep.new.self ≡ one_memo ((asked, record { value = answer.value; cost = cost }) ∷ take (memo.capacity - 1) memo.entries) memo.capacity (counted memo.built cost)))
    (answer.cost, c.in-Ok.ensures.cost, kept)

pub returns-in-Err-keep-clause-good : goal.returns-in-Err-keep-clause-good
returns-in-Err-keep-clause-good g c p found there =
    good-longer c.longer_lists_know.ensures g.I.Pass.Codes.home (g.I.Pass.Codes.lists c.args.pass.now) (g.I.Pass.Codes.lists c.exists_with_cost.new.pass) c.exists_with_cost.ensures.extends c.args.memo.now.entries c.requires.good p found
    (c.find.ensures.members (p, found) (subst (λ m. Contains m.entries (p, found)) c.in-Err-keep.ensures.err there))
