use Rattle.pt_options.proofs.Meaning.{one_options}
use Rattle.pt_options.proofs.words.options_are_one.Goals as goal

pub returns : goal.returns
returns c = one_options
