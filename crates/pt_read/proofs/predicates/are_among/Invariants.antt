use Rattle.std.proofs.Common.{◌≡◌, drop}
use Rattle.std.specs.List.{list_all}
use Rattle.pt_formula.specs.Formulas.{contains}
use Rattle.pt_read.proofs.predicates.are_among.Given as goal

-- all are among the parameters where those that are left are
abbrev pub invariant-loop-v : goal.invariant-loop-v
invariant-loop-v l = list_all (λ v. contains v l.parameters) (drop l.v-index l.variables) ≡ list_all (λ v. contains v l.fn.parameters) l.fn.variables
