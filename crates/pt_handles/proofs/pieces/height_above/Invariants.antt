use Rattle.std.proofs.Common.{◌≤◌}
use Rattle.pt_handles.specs.Adopting.{IsHeight}
use Rattle.pt_handles.proofs.pieces.height_above.Given as goal

abbrev pub invariant-loop-edge : goal.invariant-loop-edge
invariant-loop-edge g l = record {
  height : IsHeight (g.P.Codes.lists l.pass) l.edges l.edge-index l.height;
  low : l.height ≤ 65536;
}
