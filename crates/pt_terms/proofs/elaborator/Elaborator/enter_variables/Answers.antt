use Rattle.std.proofs.Common.{map, reverse}
use Rattle.pt_terms.specs.Terms.{as_bound}
use Rattle.pt_terms.proofs.EnvLemmas.{variables_in, IsEnvIn-bind}
use Rattle.pt_terms.proofs.elaborator.Elaborator.enter_variables.Goals as goal

pub returns-in-Ok-clause-range : goal.returns-in-Ok-clause-range
returns-in-Ok-clause-range c =
    rw c.in-Ok.ensures.ok
    (IsEnvIn-bind c.args.self.now c.args.env.now (map as_bound (reverse (map (λ x. (x.0.now, x.1, x.2)) c.args.variables.now))) c.requires.env (variables_in c.args.self.now (λ x. (x.0.now, x.1, x.2)) c.args.variables.now c.requires.variables))
