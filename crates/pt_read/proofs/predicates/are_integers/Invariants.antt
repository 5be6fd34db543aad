use Rattle.std.proofs.Common.{◌≡◌, drop}
use Rattle.std.specs.List.{list_all}
use Rattle.pt_terms.specs.declared.meaning.Sort.TheVariants as sort
use Rattle.pt_terms.specs.Sorts.{same_sort}
use Rattle.pt_read.proofs.predicates.are_integers.Given as goal

-- all are of sort Int where those that are left are
abbrev pub invariant-loop-sort : goal.invariant-loop-sort
invariant-loop-sort l = list_all (same_sort sort.Int) (drop l.sort-index l.sorts) ≡ list_all (same_sort sort.Int) l.fn.sorts
