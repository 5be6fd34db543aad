use Rattle.pt_main.proofs.Existing.{Laws}
use Rattle.pt_main.proofs.Works.{within-script}
use Rattle.pt_main.proofs.laws.work_is_within_that_of_the_script.Goals as goal

laws : (c : goal.After-commands_have_a_reply_or_a_refusal) → Laws
laws c = record {
  first = c.scopes_stay_sound.ensures.initial;
  read = c.commands_that_are_read_fit.ensures;
  one = c.commands_have_a_reply_or_a_refusal.ensures.one;
  after = c.commands_have_a_reply_or_a_refusal.ensures.sound;
}

pub returns : goal.returns
returns c = λ text bound work whole. within-script (laws c) text bound work whole
