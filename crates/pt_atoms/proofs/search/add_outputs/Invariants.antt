use Rattle.pt_atoms.specs.Searches.{IsRowOfOutputs}
use Rattle.pt_atoms.proofs.search.add_outputs.Given as goal

abbrev pub invariant-loop-sum : goal.invariant-loop-sum
invariant-loop-sum l = IsRowOfOutputs l.parameter l.sums l.initial.outputs.items l.outputs.items l.sum-index
