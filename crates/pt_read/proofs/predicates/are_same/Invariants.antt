use Rattle.std.proofs.Common.{◌≡◌, drop}
use Rattle.pt_terms.specs.Sorts.{same_sorts}
use Rattle.pt_read.proofs.predicates.are_same.Given as goal

-- the lists are equal where what is left of them is
abbrev pub invariant-loop-i : goal.invariant-loop-i
invariant-loop-i l = record {
  told : same_sorts (drop l.i l.xs) (drop l.i l.ys) ≡ same_sorts l.fn.xs l.fn.ys;
}
