use Rattle.std.specs.Prelude.{codes}
use Rattle.pt_syntax.specs.Lists.{script}
use Rattle.pt_read.specs.Scope.{initial}
use Rattle.pt_read.proofs.tests.laws.a_text_has_an_answer.Goals as goal

pub returns : goal.returns
returns c = c.reading_has_one_answer.ensures.answer (script (codes "(check-sat)")) initial
