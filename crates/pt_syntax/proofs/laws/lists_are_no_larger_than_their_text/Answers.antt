use Rattle.pt_syntax.proofs.Sizes.{lists-few}
use Rattle.pt_syntax.proofs.laws.lists_are_no_larger_than_their_text.Goals as goal

pub returns : goal.returns
returns c = lists-few
