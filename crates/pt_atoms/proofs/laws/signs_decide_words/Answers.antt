use Rattle.pt_atoms.proofs.Signs.{sign_rule, word_in_set}
use Rattle.pt_atoms.proofs.laws.signs_decide_words.Goals as goal

pub returns-clause-sign_rule : goal.returns-clause-sign_rule
returns-clause-sign_rule c = sign_rule

pub returns-clause-words : goal.returns-clause-words
returns-clause-words c = word_in_set
