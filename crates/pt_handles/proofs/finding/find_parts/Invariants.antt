use Rattle.pt_scc.specs.Components.{lists_of}
use Rattle.pt_handles.specs.Adopting.{ArePlaced}
use Rattle.pt_handles.proofs.finding.find_parts.Given as goal

abbrev pub invariant-loop-i : goal.invariant-loop-i
invariant-loop-i g l = ArePlaced g.P.Codes.home (g.P.Codes.lists l.pass) l.table (lists_of l.parts) l.marks l.i l.targets.items
