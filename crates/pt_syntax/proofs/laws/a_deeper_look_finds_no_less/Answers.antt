use Rattle.pt_syntax.proofs.Sizes.{deeper}
use Rattle.pt_syntax.proofs.laws.a_deeper_look_finds_no_less.Goals as goal

pub returns : goal.returns
returns c = deeper
