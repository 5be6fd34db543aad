use Rattle.std.specs.Prelude.{codes}
use Rattle.pt_syntax.specs.Lists.{script}
use Rattle.pt_read.specs.Scope.{initial}
use Rattle.pt_read.proofs.tests.laws.its_first_command_fits.Goals as goal

pub returns : goal.returns
returns c = λ rest new command next. (c.commands_that_are_read_fit.ensures (script (codes "(check-sat)")) rest initial new command c.scopes_stay_sound.ensures.initial next).2
