use Rattle.std.proofs.Common.{◌≡◌, Contains, subst, rules}
use Rattle.std.specs.Map.{lookup}
use Rattle.lru.specs.LruCache.{promoted}
use Rattle.lru.proofs.CallerLemmas.{Contains-promoted}
use Rattle.pt_memo.specs.Memos.{one_memo}
use Rattle.pt_memo.proofs.Entries.{found, unknown}
use Rattle.pt_memo.proofs.memo.Memo.find.Goals as goal

pub returns-clause-entry : goal.returns-clause-entry
returns-clause-entry g c =
    let value : c.copied.result ≡ lookup (g.K.PartialEq.eq c.args.key.now) c.args.self.now.entries = search rules in
    found (g.K.PartialEq.eq c.args.key.now) c.args.self.now.entries c.copied.result value

pub returns-clause-members : goal.returns-clause-members
returns-clause-members g c e h =
    let front : c.get.follows.lender-at-none.entries ≡ promoted (g.K.PartialEq.eq c.args.key.now) c.args.self.now.entries = search rules in
    Contains-promoted (g.K.PartialEq.eq c.args.key.now) c.args.self.now.entries e (subst (λ es. Contains es e) front h)

pub returns-clause-unknown : goal.returns-clause-unknown
returns-clause-unknown g c =
    let value : c.copied.result ≡ lookup (g.K.PartialEq.eq c.args.key.now) c.args.self.now.entries = search rules in
    let cache = c.get.follows.lender-at-none in
    let front : one_memo cache.entries cache.cap c.self.inside.built ≡ one_memo (promoted (g.K.PartialEq.eq c.args.key.now) c.args.self.now.entries) c.args.self.now.capacity c.args.self.now.built = search rules in
    unknown (g.K.PartialEq.eq c.args.key.now) c.args.self.now (one_memo cache.entries cache.cap c.self.inside.built) c.copied.result value front
