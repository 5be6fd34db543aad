use Rattle.std.proofs.Common.{◌≡◌, take, ap, ◌∙◌, sym, map}
use Rattle.pt_terms.specs.Symbols.{shown_use, shown}
use Rattle.pt_terms.proofs.SymbolLemmas.{AreOrdered-take, map-take, seen}
use Rattle.pt_terms.proofs.symbols.Symbols.truncate.Goals as goal

cut : (c : goal.After-truncate) → shown (record { entries = c.truncate.new.self }) ≡ take c.count_up_to-kept.result (shown c.self.inside)
cut c =
    ap (λ es. map (λ e. record { name = e.0.items; stands_for = shown_use e.1.stands_for; level = e.1.level }) es) c.truncate.ensures.entries
    ∙ map-take (seen (λ k. k.items) (λ l. shown_use l.stands_for) (λ l. l.level)) c.count_up_to-kept.result c.self.inside.entries.entries

pub invariant_of-self : goal.invariant_of-self
invariant_of-self c = rw (cut c) (AreOrdered-take c.count_up_to-kept.result (shown c.self.inside) c.self.invariant)

pub returns : goal.returns
returns c = cut c ∙ ap (take c.count_up_to-kept.result) c.self.view_is ∙ sym c.count_up_to-kept.ensures
