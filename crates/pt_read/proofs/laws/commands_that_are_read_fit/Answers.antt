use Rattle.pt_read.proofs.Total.{read-fits}
use Rattle.pt_read.proofs.laws.commands_that_are_read_fit.Goals as goal

pub returns : goal.returns
returns c = read-fits c.terms_are_over_the_names_that_they_see.ensures.whole c.terms_are_over_the_names_that_they_see.ensures.terms c.terms_keep_formulas_well_formed.ensures.terms c.terms_keep_formulas_well_formed.ensures.conjunctions c.names_stay_in_range.ensures
