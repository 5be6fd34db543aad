use Rattle.std.proofs.Common.{is_some, ap, ◌∙◌}
use Rattle.pt_terms.proofs.BoundNames.{has_found}
use Rattle.pt_terms.proofs.bindings.Bindings.has.Goals as goal

pub returns-in-Some : goal.returns-in-Some
returns-in-Some c = ap is_some c.in-Some.ensures ∙ has_found c.args.self.now c.args.name.now

pub returns-in-None : goal.returns-in-None
returns-in-None c = ap is_some c.in-None.ensures ∙ has_found c.args.self.now c.args.name.now
