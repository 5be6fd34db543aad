use Rattle.std.proofs.Common.{get_or}
use Rattle.pt_refine.proofs.Chaining.{ChainsTo}
use Rattle.pt_refine.proofs.chains.Chains.of.Given as goal

abbrev pub invariant-loop-cell : goal.invariant-loop-cell
invariant-loop-cell l = ChainsTo (λ i. get_or l.table.edges i 0) l.table.states l.cell l.last.items l.before.items
