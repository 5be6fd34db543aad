use Rattle.std.proofs.Common.{◌≡◌, drop, map}
use Rattle.pt_grammar.specs.Words.{head_among}
use Rattle.pt_grammar.proofs.words.head_in.Given as goal

-- what the words that are left say is what all say
abbrev pub invariant-loop-word : goal.invariant-loop-word
invariant-loop-word l = head_among (map (λ h. (h.0.now, h.1)) (drop l.word-index l.words)) l.name ≡ head_among (map (λ h. (h.0.now, h.1)) l.fn.words) l.fn.name
