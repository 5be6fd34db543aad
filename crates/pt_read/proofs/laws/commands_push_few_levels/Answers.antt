use Rattle.pt_read.proofs.FewNumbers.{low-next}
use Rattle.pt_read.proofs.laws.commands_push_few_levels.Goals as goal

pub returns : goal.returns
returns c = low-next
