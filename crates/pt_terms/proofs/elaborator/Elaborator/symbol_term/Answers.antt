use Rattle.std.proofs.Common.{sym, subst, ◌∙◌}
use Rattle.pt_terms.specs.Gives.{Fails}
use Rattle.pt_terms.specs.Names.{look_up}
use Rattle.pt_terms.specs.Layers.{symbol_term, plain_found, found_term}
use Rattle.pt_terms.proofs.Steps.{fails_first, given_then}
use Rattle.pt_terms.proofs.SymbolTerms.{gives_same, symbol-found}
use Rattle.pt_terms.proofs.elaborator.Elaborator.symbol_term.Goals as goal

pub returns-in-Err-clause-gives : goal.returns-in-Err-clause-gives
returns-in-Err-clause-gives c =
    subst (Fails c.in-Err.refusal) (sym (symbol-found c.args.env.now c.args.at c.args.name.now c.args.self.now c.if-is.ensures c.if-is-2.ensures))
    (fails_first (plain_found c.args.at (look_up c.args.env.now c.args.name.now)) (found_term c.args.at) c.args.self.now c.in-Err.refusal (c.in-Err.ensures.says c.args.self.now))

pub found_term-requires : goal.found_term-requires
found_term-requires c = c.in-Ok.ensures.range c.args.self.now c.requires.env

pub returns-in-Ok-clause-gives : goal.returns-in-Ok-clause-gives
returns-in-Ok-clause-gives c =
    gives_same (λ m. m) c.found_term.result c.args.self.now c.found_term.new.self (symbol_term c.args.env.now c.args.at c.args.name.now) (found_term c.args.at c.in-Ok.found)
    (symbol-found c.args.env.now c.args.at c.args.name.now c.args.self.now c.if-is.ensures c.if-is-2.ensures
    ∙ given_then (plain_found c.args.at (look_up c.args.env.now c.args.name.now)) (found_term c.args.at) c.args.self.now c.args.self.now c.in-Ok.found (c.in-Ok.ensures.says c.args.self.now))
    c.found_term.ensures.gives
