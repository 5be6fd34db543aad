use Rattle.std.proofs.Common.{◌≡◌, ◌≤◌, ◌-◌, length, take}
use Rattle.std.specs.HashMap.{get}
use Rattle.pt_handles.specs.Rows.{IsLaid, same_place, total_of}
use Rattle.pt_handles.specs.Knowing.{IsTested}
use Rattle.pt_handles.proofs.exploring.explore.Given as goal

abbrev pub invariant-loop-next : goal.invariant-loop-next
invariant-loop-next g l = record {
  tracks : l.row.tracks ≡ l.handle.tracks;
  root : l.row.root ≡ l.handle.place;
  row : IsTested (g.P.Codes.lists l.pass) l.handle.tracks l.handle.place l.row.places.items (get same_place l.row.offsets) l.row.total;
  place : l.next ≤ length l.row.places.items;
  first : l.first ≡ total_of (g.P.Codes.lists l.pass) (take l.next l.row.places.items);
  laid : IsLaid (g.P.Codes.lists l.pass) l.handle.tracks l.row.places.items l.first l.outputs.items l.edges.items;
}

abbrev pub decreases-loop-next : goal.decreases-loop-next
decreases-loop-next g l = 65536 - l.next
