use Rattle.std.proofs.Common.{◌≡◌, ◌⊎◌, ◌-◌, ◌∷◌, None, Contains, ap, sym, ◌∙◌, subst, take, rules}
use Rattle.std.specs.Map.{lookup}
use Rattle.lru.specs.LruCache.{lru_cache}
use Rattle.pt_memo.specs.Memos.{OneMemo, one_memo, counted}
use Rattle.pt_memo.proofs.Entries.{inserted, new_or_old}
use Rattle.pt_memo.proofs.memo.Memo.keep.Goals as goal

pub returns-clause-ok : goal.returns-clause-ok
returns-clause-ok g c =
    let eq = g.K.PartialEq.eq in
    let cache = c.self.inside.cache in
    let k = c.args.key in
    let v = c.args.answer in
    let none : lookup (eq k) cache.entries ≡ None = ap (λ m. lookup (eq k) m.entries) c.self.view_is ∙ c.requires in
    let new = inserted eq k v cache c.put.new.self none c.in_ok-put.ensures.entries in
    let sum : c.saturating_add-self-inside.result ≡ counted c.self.inside.built v.cost = search rules in
    rw (new, sum) (ap (λ m. one_memo ((k, v) ∷ take (m.capacity - 1) m.entries) m.capacity (counted m.built v.cost)) c.self.view_is)

pub returns-clause-members : goal.returns-clause-members
returns-clause-members g c e h =
    let eq = g.K.PartialEq.eq in
    let cache = c.self.inside.cache in
    let k = c.args.key in
    let v = c.args.answer in
    let none : lookup (eq k) cache.entries ≡ None = ap (λ m. lookup (eq k) m.entries) c.self.view_is ∙ c.requires in
    let new = inserted eq k v cache c.put.new.self none c.in_ok-put.ensures.entries in
    let there = subst (λ c. Contains c.entries e) new h in
    subst (λ m. (e ≡ (k, v)) ⊎ Contains m.entries e) c.self.view_is (new_or_old k v (cache.cap - 1) cache.entries e there)
