use Rattle.std.proofs.Common.{◌≡◌, length, take}
use Rattle.std.specs.Prelude.{sum_by}
use Rattle.pt_drill.specs.Summary.{lines_of, number_on}
use Rattle.pt_drill.proofs.output.sum.Given as goal

abbrev pub invariant-loop-line : goal.invariant-loop-line
invariant-loop-line l = l.sum ≡ sum_by number_on (take (length l.yielded) (lines_of l.output))
