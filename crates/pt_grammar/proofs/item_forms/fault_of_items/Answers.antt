use Rattle.pt_grammar.proofs.MissingItems.{missing}
use Rattle.pt_grammar.proofs.item_forms.fault_of_items.Goals as goal

pub returns-in-empty : goal.returns-in-empty
returns-in-empty c = missing c.args.at c.args.more c.args.forms.now c.loop-form.form-index c.loop-form.left.now _ c.loop-form-test.true c.in-empty.len_below c.loop-form.invariant
