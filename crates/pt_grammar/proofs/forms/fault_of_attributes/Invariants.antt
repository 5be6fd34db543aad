use Rattle.std.proofs.Common.{◌≡◌, drop, false}
use Rattle.pt_grammar.specs.Forms.{attributes_fault}
use Rattle.pt_grammar.proofs.forms.fault_of_attributes.Given as goal

-- the first fault is in what is left
abbrev pub invariant-loop-e : goal.invariant-loop-e
invariant-loop-e l = attributes_fault l.value_may_follow (drop l.e-index l.es) ≡ attributes_fault false l.fn.es
