use Rattle.std.proofs.Common.{◌≡◌, drop}
use Rattle.pt_grammar.specs.ItemForms.{more_fault}
use Rattle.pt_grammar.specs.declared.item_forms.More.TheVariants.{Many}
use Rattle.pt_grammar.proofs.item_forms.fault_of_many.Given as goal

-- the first fault is in what is left
abbrev pub invariant-loop-e : goal.invariant-loop-e
invariant-loop-e l = more_fault (Many l.form) (drop l.e-index l.items) ≡ more_fault (Many l.fn.form) l.fn.items
