use Rattle.std.specs.Prelude.{codes}
use Rattle.pt_main.proofs.tests.laws.a_text_has_one_output.Goals as goal

pub returns-clause-some : goal.returns-clause-some
returns-clause-some c = c.texts_have_outputs.ensures (codes "(check-sat)") 16384

pub returns-clause-one : goal.returns-clause-one
returns-clause-one c = c.outputs_are_one.ensures (codes "(check-sat)") 16384
