use Rattle.std.proofs.Common.{◌≡◌, ◌++◌, drop}
use Rattle.pt_terms.specs.Elaboration.{Work, each, give, ◌>>=◌}
use Rattle.pt_grammar.specs.Exprs.{symbol_of, items_of, items_or_none}
use Rattle.pt_read.specs.Commands.{constant_of}
use Rattle.pt_read.proofs.context.Context.constants.Given as goal

-- what is found so far, in front of what the rest gives, is what all gives
abbrev pub invariant-loop-e : goal.invariant-loop-e
invariant-loop-e l = (w : Work) → (each (λ e. constant_of l.self e (symbol_of e)) (drop l.e-index l.es) >>= λ cs. give (l.found.items ++ cs)) w ≡ each (λ e. constant_of l.fn.self e (symbol_of e)) (items_or_none (items_of l.fn.list)) w
