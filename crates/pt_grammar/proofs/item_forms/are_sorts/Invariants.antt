use Rattle.std.proofs.Common.{◌≡◌, drop}
use Rattle.std.specs.List.{list_all}
use Rattle.pt_grammar.specs.Forms.{is_sort}
use Rattle.pt_grammar.proofs.item_forms.are_sorts.Given as goal

-- all are sorts where those that are left are
abbrev pub invariant-loop-e : goal.invariant-loop-e
invariant-loop-e l = list_all is_sort (drop l.e-index l.es) ≡ list_all is_sort l.fn.es
