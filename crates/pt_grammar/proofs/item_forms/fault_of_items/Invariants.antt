use Rattle.std.proofs.Common.{◌≡◌, drop}
use Rattle.pt_grammar.specs.ItemForms.{items_fault}
use Rattle.pt_grammar.proofs.item_forms.fault_of_items.Given as goal

-- the first fault is that of the items that are left, by the forms that are left
abbrev pub invariant-loop-form : goal.invariant-loop-form
invariant-loop-form l = items_fault l.at (drop l.form-index l.forms) l.more l.left ≡ items_fault l.fn.at l.fn.forms l.fn.more l.fn.items
