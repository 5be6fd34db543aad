use Rattle.std.proofs.Common.{ap, subst, ◌∙◌}
use Rattle.pt_terms.specs.Environment.{outermost}
use Rattle.pt_terms.specs.Terms.{term}
use Rattle.pt_terms.specs.Gives.{Gives}
use Rattle.pt_read.proofs.declarations.whole_term.Goals as goal

pub returns-clause-gives : goal.returns-clause-gives
returns-clause-gives c = subst (λ n. Gives (λ m. m) c.whole_term.result c.args.work.now c.whole_term.new.self (term n c.args.e.now)) (c.new-env.ensures ∙ ap outermost c.live.ensures) c.whole_term.ensures.gives
