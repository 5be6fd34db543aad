use Rattle.std.proofs.Common.{◌≡◌, ◌-◌, ◌≤◌}
use Rattle.std.specs.Prelude.{◌↔◌}
use Rattle.pt_handles.specs.Handles.{IsKnown, SetOfHandle}
use Rattle.pt_query.specs.Shifting.{shifted}
use Rattle.pt_query.proofs.membership.contains.Given as goal

abbrev pub invariant-loop-reached : goal.invariant-loop-reached
invariant-loop-reached g l = record {
  position : l.k ≤ 127;
  known : IsKnown g.P.Codes.home (g.P.Codes.lists l.pass) l.reached;
  tracks : l.reached.tracks ≡ l.fn.a.tracks;
  set : SetOfHandle (g.P.Codes.lists l.pass) l.fn.a l.z ↔ SetOfHandle (g.P.Codes.lists l.pass) l.reached (shifted l.k l.z);
}

abbrev pub decreases-loop-reached : goal.decreases-loop-reached
decreases-loop-reached g l = 127 - l.k
