use Rattle.std.proofs.Common.{◌≡◌, drop, map}
use Rattle.pt_grammar.specs.Words.{is_among}
use Rattle.pt_grammar.proofs.words.is_one_of.Given as goal

-- the name is one of the words that are left, or of none
abbrev pub invariant-loop-word : goal.invariant-loop-word
invariant-loop-word l = is_among l.name (map (λ w. w.now) (drop l.word-index l.words)) ≡ is_among l.fn.name (map (λ w. w.now) l.fn.words)
