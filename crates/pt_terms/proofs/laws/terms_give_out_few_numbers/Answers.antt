use Rattle.pt_terms.proofs.FewNumbers.{adds-term-within}
use Rattle.pt_terms.proofs.laws.terms_give_out_few_numbers.Goals as goal

pub returns : goal.returns
returns c = adds-term-within c.a_deeper_look_finds_no_less.ensures
