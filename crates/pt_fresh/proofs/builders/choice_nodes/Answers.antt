use Rattle.std.proofs.Common.{subst}
use Rattle.pt_formula.specs.declared.form.Form.{Form}
use Rattle.pt_fresh.specs.Builders.{choose}
use Rattle.pt_fresh.specs.Outcomes.{Makes}
use Rattle.pt_fresh.proofs.builders.choice_nodes.Goals as goal

pub returns-clause-makes : goal.returns-clause-makes
returns-clause-makes c = subst (λ (x : Form). Makes c.choose.result c.args.formula.now c.choose.new.formula (choose x c.args.c c.args.a.now c.args.b.now c.args.at)) c.in_ok-variable.ensures.value c.choose.ensures.makes
