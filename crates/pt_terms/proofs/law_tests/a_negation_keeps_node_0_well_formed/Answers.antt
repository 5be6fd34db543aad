use Rattle.std.proofs.Common.{arith}
use Rattle.pt_terms.specs.Examples.{beginning, nothing_named, place, negation}
use Rattle.pt_terms.proofs.law_tests.a_negation_keeps_node_0_well_formed.Goals as goal

pub returns-clause-term : goal.returns-clause-term
returns-clause-term c = c.terms_keep_formulas_well_formed.ensures.terms nothing_named negation beginning (record { bound = tt; live = tt })

pub returns-clause-conjunction : goal.returns-clause-conjunction
returns-clause-conjunction c = c.terms_keep_formulas_well_formed.ensures.conjunctions 0 0 place beginning (omega arith) (omega arith)
