use Rattle.std.proofs.Common.{◌≡◌, drop}
use Rattle.std.specs.List.{list_all}
use Rattle.pt_grammar.specs.Forms.{is_variable}
use Rattle.pt_grammar.proofs.forms.are_variables.Given as goal

-- all are variables where those that are left are
abbrev pub invariant-loop-e : goal.invariant-loop-e
invariant-loop-e l = list_all is_variable (drop l.e-index l.es) ≡ list_all is_variable l.fn.es
