use Rattle.std.proofs.Common.{ap, sym, ◌∙◌}
use Rattle.std.specs.Prelude.{◌||◌}
use Rattle.pt_syntax.specs.declared.kinds.ReadKind.TheVariants.{Redeclared}
use Rattle.pt_terms.specs.Elaboration.{Work, give}
use Rattle.pt_grammar.specs.Exprs.{symbol_of, place_of, name_of}
use Rattle.pt_grammar.specs.Words.{is_reserved}
use Rattle.pt_terms.specs.Names.{is_live}
use Rattle.pt_read.proofs.Steps.{refused_first}
use Rattle.pt_read.proofs.context.Context.new_name.Goals as goal

pub returns-then-is_taken : goal.returns-then-is_taken
returns-then-is_taken c = λ (w : Work). refused_first (is_reserved (name_of (symbol_of c.args.e.now)) || is_live c.args.self.now.symbols (name_of (symbol_of c.args.e.now))) Redeclared (place_of c.args.e.now) (λ _. give (name_of (symbol_of c.args.e.now))) w c.refused.result (sym c.is_taken.ensures ∙ c.if-is_taken.true) (c.refused.ensures ∙ ap (λ p. record { kind = Redeclared; position = p }) c.place.ensures)
