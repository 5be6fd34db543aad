use Rattle.std.proofs.Common.{ap, option_map, ◌∙◌}
use Rattle.pt_terms.specs.Names.{find_symbol}
use Rattle.pt_terms.specs.Symbols.{shown_use}
use Rattle.pt_terms.proofs.SymbolLemmas.{find-lookup}
use Rattle.pt_terms.proofs.symbols.Symbols.find.Goals as goal

pub returns-in-Some : goal.returns-in-Some
returns-in-Some c =
    ap (option_map (λ l. shown_use l.stands_for)) c.in-Some.ensures.value
    ∙ find-lookup (λ k. k.items) (λ l. shown_use l.stands_for) (λ l. l.level) c.self.inside.entries.entries c.args.name.now
    ∙ ap (λ ss. find_symbol ss c.args.name.now) c.self.view_is

pub returns-in-None : goal.returns-in-None
returns-in-None c =
    ap (option_map (λ l. shown_use l.stands_for)) c.in-None.ensures.value
    ∙ find-lookup (λ k. k.items) (λ l. shown_use l.stands_for) (λ l. l.level) c.self.inside.entries.entries c.args.name.now
    ∙ ap (λ ss. find_symbol ss c.args.name.now) c.self.view_is
