use Rattle.std.proofs.Common.{◌≡◌, ◌≤◌, ap, ◌∙◌, map, false, ◌++◌, ◌∷◌, []}
use Rattle.std.specs.List.{AllByRecursion}
use Rattle.pt_terms.specs.Symbols.{shown_use, shown}
use Rattle.pt_terms.specs.Names.{Symbol, is_live}
use Rattle.pt_terms.proofs.SymbolLemmas.{lookup-new, seen-insert, AreOrdered-push}
use Rattle.pt_terms.proofs.symbols.Symbols.push.Goals as goal

pushed : (c : goal.Joined-insert-2) → shown (record { entries = c.insert.new.self }) ≡ shown c.self.inside ++ record { name = c.args.name.items; stands_for = shown_use c.args.stands_for; level = c.args.level } ∷ []
pushed c =
    let new : is_live (shown c.self.inside) c.args.name.items ≡ false = rw c.self.view_is c.requires.new in
    let none = lookup-new (λ k. k.items) (λ l. shown_use l.stands_for) (λ l. l.level) c.self.inside.entries.entries c.args.name.items new in
    ap (λ es. map (λ e. record { name = e.0.items; stands_for = shown_use e.1.stands_for; level = e.1.level }) es) c.in-Ok.ensures.entries
    ∙ seen-insert (λ k. k.items) (λ l. shown_use l.stands_for) (λ l. l.level) c.self.inside.entries.entries c.args.name _ none

pub invariant_of-self : goal.invariant_of-self
invariant_of-self c =
    let below : AllByRecursion (λ (s : Symbol). s.level ≤ c.args.level) (shown c.self.inside) = rw c.self.view_is c.requires.level in
    rw (pushed c) (AreOrdered-push (shown c.self.inside) _ c.self.invariant below)

pub returns-in-Ok-clause-ok : goal.returns-in-Ok-clause-ok
returns-in-Ok-clause-ok c = rw (← c.self.view_is) (pushed c)
