use Rattle.std.proofs.Common.{◌≡◌, drop}
use Rattle.pt_grammar.specs.Forms.{none_faulty, is_binding}
use Rattle.pt_grammar.proofs.forms.first_other.Given as goal

-- the first fault is in what is left
abbrev pub invariant-loop-e : goal.invariant-loop-e
invariant-loop-e l = none_faulty is_binding (drop l.e-index l.es) ≡ none_faulty is_binding l.fn.es
