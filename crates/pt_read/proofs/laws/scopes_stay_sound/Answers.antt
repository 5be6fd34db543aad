use Rattle.pt_read.proofs.Total.{initial-sound, after-sound, sound-conjunction}
use Rattle.pt_read.proofs.laws.scopes_stay_sound.Goals as goal

pub returns-clause-initial : goal.returns-clause-initial
returns-clause-initial c = initial-sound

pub returns-clause-after : goal.returns-clause-after
returns-clause-after c = after-sound

pub returns-clause-conjunction : goal.returns-clause-conjunction
returns-clause-conjunction c = sound-conjunction
