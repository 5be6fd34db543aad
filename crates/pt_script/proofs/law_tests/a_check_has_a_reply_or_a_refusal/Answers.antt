use Rattle.pt_script.specs.State.{initial}
use Rattle.pt_script.specs.Examples.{check}
use Rattle.pt_script.proofs.law_tests.a_check_has_a_reply_or_a_refusal.Goals as goal

pub returns-clause-one : goal.returns-clause-one
returns-clause-one c = c.commands_have_a_reply_or_a_refusal.ensures.one initial check 16384 c.scopes_stay_sound.ensures.initial tt

pub returns-clause-sound : goal.returns-clause-sound
returns-clause-sound c = λ reply new step. c.commands_have_a_reply_or_a_refusal.ensures.sound initial check 16384 reply new c.scopes_stay_sound.ensures.initial tt step
