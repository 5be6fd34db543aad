use Rattle.pt_read.specs.declared.command.CommandKind.TheVariants as kind
use Rattle.pt_read.specs.Scope.{initial}
use Rattle.pt_read.proofs.tests.laws.the_initial_scope_is_sound_after_a_reset.Goals as goal

pub returns : goal.returns
returns c = c.scopes_stay_sound.ensures.after kind.Reset initial tt c.scopes_stay_sound.ensures.initial
