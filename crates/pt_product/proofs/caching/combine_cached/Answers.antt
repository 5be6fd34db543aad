use Rattle.std.proofs.Common.{◌≡◌, ℕ, ◌-◌, ◌<◌, ◌≤◌, ◌∷◌, take, Contains, IfNone, ap, sym, ◌∙◌, subst, refl, arith}
use Rattle.std.specs.Map.{lookup}
use Rattle.pt_sets.specs.Costs.{SamePair, CostIs}
use Rattle.pt_sets.specs.Restricting.{widened}
use Rattle.pt_sets.proofs.Restricted.{All-map}
use Rattle.pt_memo.specs.Memos.{one_memo, counted}
use Rattle.pt_handles.specs.declared.handle.Handle.{Handle}
use Rattle.pt_handles.specs.Handles.{Has, SetOfHandle, state_of}
use Rattle.pt_product.specs.declared.combination.Combination.{Combination}
use Rattle.pt_product.specs.contracts.combination.CombinationPartialEq.TheImpl as compared
use Rattle.pt_product.specs.Operations.{combined}
use Rattle.pt_product.specs.TrackSets.{tracks_in}
use Rattle.pt_product.specs.Caching.{combination, IsCombined}
use Rattle.pt_product.proofs.Tracks.{known-tracks}
use Rattle.pt_product.proofs.Cached.{built, good-longer, good-more, exact, by-sets, found-right, cost-within, cost-above, given, given-none, if_none}
use Rattle.pt_product.proofs.caching.combine_cached.Goals as goal

pub new-asked-requires-clause-few_a : goal.new-asked-requires-clause-few_a
new-asked-requires-clause-few_a g c =
    subst (λ (n : ℕ). n ≤ 10) (sym c.requires.map_a.count) (known-tracks g.I.Pass.Codes.home (g.I.Pass.Codes.lists c.args.pass.now) c.args.a.tracks (state_of c.args.a) c.requires.known_a)

pub new-asked-requires-clause-few_b : goal.new-asked-requires-clause-few_b
new-asked-requires-clause-few_b g c =
    subst (λ (n : ℕ). n ≤ 10) (sym c.requires.map_b.count) (known-tracks g.I.Pass.Codes.home (g.I.Pass.Codes.lists c.args.pass.now) c.args.b.tracks (state_of c.args.b) c.requires.known_b)

pub new-asked-requires-clause-map_a : goal.new-asked-requires-clause-map_a
new-asked-requires-clause-map_a g c =
    let few : c.args.tracks ≤ 10 = c.requires.tracks in
    All-map (λ i. i < c.args.tracks) (λ i. i < 10) (λ i h. omega (arith, h, few)) c.args.map_a.now c.requires.map_a.within

pub new-asked-requires-clause-map_b : goal.new-asked-requires-clause-map_b
new-asked-requires-clause-map_b g c =
    let few : c.args.tracks ≤ 10 = c.requires.tracks in
    All-map (λ i. i < c.args.tracks) (λ i. i < 10) (λ i h. omega (arith, h, few)) c.args.map_b.now c.requires.map_b.within

pub returns-in-Some-within-clause-ok : goal.returns-in-Some-within-clause-ok
returns-in-Some-within-clause-ok g c =
    let home = g.I.Pass.Codes.home in
    let old = g.I.Pass.Codes.lists c.args.pass.now in
    let entry = c.in-Some.ensures.entry in
    let same : combination c.args.op c.args.a c.args.map_a.now c.args.b c.args.map_b.now c.args.tracks ≡ entry.0 = sym c.new-asked.ensures ∙ exact c.new-asked.result entry.0 entry.2 in
    let right = found-right home old c.args.op c.args.a c.args.map_a.now c.args.b c.args.map_b.now c.args.tracks c.requires.tracks c.requires.map_a c.requires.map_b c.args.memo.now.entries entry.0 c.in-Some.answer same c.requires.good entry.1 in
    let gives = given c.in-Some.answer c.args.bound c.in-Some-within.handle c.in-Some-within.ensures.within c.in-Some-within.ensures.above in
    subst (λ (h : Handle). Has home old c.args.tracks (combined c.args.op (widened c.args.map_a.now (SetOfHandle old c.args.a)) (widened c.args.map_b.now (SetOfHandle old c.args.b))) h) gives.0 right.set

pub returns-in-Some-within-clause-within : goal.returns-in-Some-within-clause-within
returns-in-Some-within-clause-within g c =
    let home = g.I.Pass.Codes.home in
    let old = g.I.Pass.Codes.lists c.args.pass.now in
    let entry = c.in-Some.ensures.entry in
    let same : combination c.args.op c.args.a c.args.map_a.now c.args.b c.args.map_b.now c.args.tracks ≡ entry.0 = sym c.new-asked.ensures ∙ exact c.new-asked.result entry.0 entry.2 in
    let right = found-right home old c.args.op c.args.a c.args.map_a.now c.args.b c.args.map_b.now c.args.tracks c.requires.tracks c.requires.map_a c.requires.map_b c.args.memo.now.entries entry.0 c.in-Some.answer same c.requires.good entry.1 in
    let gives = given c.in-Some.answer c.args.bound c.in-Some-within.handle c.in-Some-within.ensures.within c.in-Some-within.ensures.above in
    cost-within c.args.tracks (widened c.args.map_a.now (SetOfHandle old c.args.a)) (widened c.args.map_b.now (SetOfHandle old c.args.b)) c.in-Some.answer.cost c.args.bound right.cost gives.1

pub returns-in-Some-within-clause-good : goal.returns-in-Some-within-clause-good
returns-in-Some-within-clause-good g c d found there = c.requires.good d found (c.find.ensures.members (d, found) there)

pub returns-in-None-clause-err : goal.returns-in-None-clause-err
returns-in-None-clause-err g c =
    let home = g.I.Pass.Codes.home in
    let old = g.I.Pass.Codes.lists c.args.pass.now in
    let entry = c.in-Some.ensures.entry in
    let same : combination c.args.op c.args.a c.args.map_a.now c.args.b c.args.map_b.now c.args.tracks ≡ entry.0 = sym c.new-asked.ensures ∙ exact c.new-asked.result entry.0 entry.2 in
    let right = found-right home old c.args.op c.args.a c.args.map_a.now c.args.b c.args.map_b.now c.args.tracks c.requires.tracks c.requires.map_a c.requires.map_b c.args.memo.now.entries entry.0 c.in-Some.answer same c.requires.good entry.1 in (
      refl,
      cost-above c.args.tracks (widened c.args.map_a.now (SetOfHandle old c.args.a)) (widened c.args.map_b.now (SetOfHandle old c.args.b)) c.in-Some.answer.cost c.args.bound right.cost (given-none c.in-Some.answer c.args.bound c.in-None.ensures.within),
    )

pub returns-in-None-clause-good : goal.returns-in-None-clause-good
returns-in-None-clause-good g c d found there = c.requires.good d found (c.find.ensures.members (d, found) there)

pub returns-in-Err-clause-good : goal.returns-in-Err-clause-good
returns-in-Err-clause-good g c d found there =
    good-longer c.longer_lists_know.ensures g.I.Pass.Codes.home (g.I.Pass.Codes.lists c.args.pass.now) (g.I.Pass.Codes.lists c.combine_with_cost.new.pass) c.combine_with_cost.ensures.extends c.args.memo.now.entries c.requires.good d found
    (c.find.ensures.members (d, found) there)

pub returns-in-Ok-keep-clause-good : goal.returns-in-Ok-keep-clause-good
returns-in-Ok-keep-clause-good g c =
    let home = g.I.Pass.Codes.home in
    let old = g.I.Pass.Codes.lists c.args.pass.now in
    let new = g.I.Pass.Codes.lists c.combine_with_cost.new.pass in
    let law = c.longer_lists_know.ensures in
    let longer = c.combine_with_cost.ensures.extends in
    let answer = c.in-Ok.answer in
    let before = good-longer law home old new longer c.args.memo.now.entries c.requires.good in
    let right = built law home old new longer c.args.op c.args.a c.args.map_a.now c.args.b c.args.map_b.now c.args.tracks answer c.requires.known_a c.requires.known_b c.requires.map_a c.requires.map_b c.in-Ok.ensures.ok c.in-Ok.ensures.cost in
    let by_sets = by-sets home new c.args.op c.args.a c.args.map_a.now c.args.b c.args.map_b.now c.args.tracks c.requires.tracks c.requires.map_a c.requires.map_b answer right in
    let is = subst (λ (d : Combination). IsCombined home new d.op d.a (tracks_in d.map_a) d.b (tracks_in d.map_b) d.tracks answer) (sym c.new-asked.ensures) by_sets in
    good-more home new c.new-asked.result answer c.find.new.self.entries c.keep.new.self.entries c.in-Ok-keep.ensures.members (λ d found there. before d found (c.find.ensures.members (d, found) there)) is

pub returns-in-Ok-keep-clause-new : goal.returns-in-Ok-keep-clause-new
returns-in-Ok-keep-clause-new g c =
    let old = g.I.Pass.Codes.lists c.args.pass.now in
    let t = c.args.tracks in
    let A = widened c.args.map_a.now (SetOfHandle old c.args.a) in
    let B = widened c.args.map_b.now (SetOfHandle old c.args.b) in
    let asked = combination c.args.op c.args.a c.args.map_a.now c.args.b c.args.map_b.now t in
    let memo = c.args.memo.now in
    let answer = c.in-Ok.answer in
    let unknown : c.find.new.self ≡ memo = subst (λ o. IfNone o (c.find.new.self ≡ memo)) c.in_default.is c.find.ensures.unknown in
    let kept = c.in-Ok-keep.ensures.ok ∙ ap (λ m. one_memo ((c.new-asked.result, answer) ∷ take (m.capacity - 1) m.entries) m.capacity (counted m.built answer.cost)) unknown
    ∙ ap (λ (k : Combination). one_memo ((k, answer) ∷ take (memo.capacity - 1) memo.entries) memo.capacity (counted memo.built answer.cost)) c.new-asked.ensures in
    if_none (lookup (compared.eq-value.it asked) memo.entries)
    ((cost : ℕ) × CostIs (SamePair t A B) t cost × (c.keep.new.self ≡ one_memo ((asked, record { value = answer.value; cost = cost }) ∷ take (memo.capacity - 1) memo.entries) memo.capacity (counted memo.built cost)))
    (answer.cost, c.in-Ok.ensures.cost, kept)

pub returns-in-Err-keep-clause-good : goal.returns-in-Err-keep-clause-good
returns-in-Err-keep-clause-good g c d found there =
    good-longer c.longer_lists_know.ensures g.I.Pass.Codes.home (g.I.Pass.Codes.lists c.args.pass.now) (g.I.Pass.Codes.lists c.combine_with_cost.new.pass) c.combine_with_cost.ensures.extends c.args.memo.now.entries c.requires.good d found
    (c.find.ensures.members (d, found) (subst (λ m. Contains m.entries (d, found)) c.in-Err-keep.ensures.err there))
