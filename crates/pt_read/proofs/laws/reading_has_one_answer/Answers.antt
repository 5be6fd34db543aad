use Rattle.pt_read.proofs.Total.{has-answer, one-next, one-refusal, read-not-refused}
use Rattle.pt_read.proofs.laws.reading_has_one_answer.Goals as goal

pub returns-clause-answer : goal.returns-clause-answer
returns-clause-answer c = has-answer

pub returns-clause-next : goal.returns-clause-next
returns-clause-next c = one-next

pub returns-clause-refusal : goal.returns-clause-refusal
returns-clause-refusal c = one-refusal

pub returns-clause-apart : goal.returns-clause-apart
returns-clause-apart c = read-not-refused
