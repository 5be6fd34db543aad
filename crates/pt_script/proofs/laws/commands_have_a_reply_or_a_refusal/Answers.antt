use Rattle.pt_script.proofs.Answering.{Laws, answered, sound-after-step}
use Rattle.pt_script.proofs.laws.commands_have_a_reply_or_a_refusal.Goals as goal

laws : (c : goal.After-refusals_are_decided) → Laws
laws c = record {
  refusals = c.refusals_are_decided.ensures;
  pair = c.costs_are_decided.ensures.pair;
  member = c.facts_on_solutions_are_decided.ensures.member;
  some = c.facts_on_solutions_are_decided.ensures.some;
  equal = c.facts_on_solutions_are_decided.ensures.equal;
  subset = c.facts_on_solutions_are_decided.ensures.subset;
  bounded = c.facts_on_solutions_are_decided.ensures.bounded;
  residuals = c.residuals_are_a_number.ensures;
  least = c.solutions_have_first_ones.ensures.least;
  first = c.solutions_have_first_ones.ensures.first;
  widened = c.widening_puts_no_condition_on_added_variables.ensures.holds;
  shortest = c.each_vector_has_one_shortest_word.ensures.exists;
  conjunction = c.scopes_stay_sound.ensures.conjunction;
  after = c.scopes_stay_sound.ensures.after;
}

pub returns-clause-one : goal.returns-clause-one
returns-clause-one c = λ s command bound h fits. answered (laws c) s command.position bound command.kind h fits

pub returns-clause-sound : goal.returns-clause-sound
returns-clause-sound c = λ s command bound reply new h fits step. sound-after-step (laws c) s command.kind reply new h fits step.answer
