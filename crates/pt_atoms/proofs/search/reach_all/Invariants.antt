use Rattle.std.proofs.Common.{◌≤◌, ◌-◌, length}
use Rattle.pt_atoms.specs.Parameters.{coefficients_at}
use Rattle.pt_atoms.specs.Searches.{AreSums, IsSearch}
use Rattle.pt_atoms.proofs.search.reach_all.Given as goal

abbrev pub invariant-rows : goal.invariant-rows
invariant-rows l =
    AreSums (coefficients_at l.search.sums.kind l.normal.coefficients) l.search.sums.values.items
    × IsSearch l.normal l.bound l.q l.search.found.keys l.search.edges.items l.search.outputs.items
    × (l.q ≤ length l.search.found.keys)

abbrev pub decreases-rows : goal.decreases-rows
decreases-rows l = l.bound - l.q
