use Rattle.std.proofs.Common.{◌≤◌, length, map}
use Rattle.pt_atoms.specs.Parameters.{form_at}
use Rattle.pt_atoms.specs.Tables.{AreReached}
use Rattle.pt_atoms.specs.Searches.{IsRowOfEdges}
use Rattle.pt_atoms.proofs.search.add_edges.Given as goal

abbrev pub invariant-loop-letter : goal.invariant-loop-letter
invariant-loop-letter l =
    AreReached l.normal (map (form_at l.normal.coefficients) l.found.keys)
    × (length l.found.keys ≤ l.bound)
    × IsRowOfEdges l.normal l.parameter l.initial.found.keys l.found.keys l.initial.edges.items l.edges.items l.letter
