use Rattle.pt_terms.proofs.Ranges.{env_more}
use Rattle.pt_terms.proofs.laws.names_stay_in_range.Goals as goal

pub returns : goal.returns
returns c = env_more
