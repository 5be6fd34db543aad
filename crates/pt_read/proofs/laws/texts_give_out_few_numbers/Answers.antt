use Rattle.pt_syntax.specs.Rest.{at_start}
use Rattle.pt_terms.specs.Numbers.{looks}
use Rattle.pt_read.proofs.FewNumbers.{numbers-next, fewer-next}
use Rattle.pt_read.proofs.laws.texts_give_out_few_numbers.Goals as goal

pub returns-clause-whole : goal.returns-clause-whole
returns-clause-whole c = λ text. c.lists_are_no_larger_than_their_text.ensures (looks 257) (at_start text)

pub returns-clause-given : goal.returns-clause-given
returns-clause-given c = numbers-next c.terms_give_out_few_numbers.ensures

pub returns-clause-fewer : goal.returns-clause-fewer
returns-clause-fewer c = fewer-next
