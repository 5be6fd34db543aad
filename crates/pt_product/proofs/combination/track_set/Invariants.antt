use Rattle.std.proofs.Common.{◌≡◌, ◌+◌, ◌*◌, ◌^◌, ◌≤◌, drop}
use Rattle.std.specs.List.{fold}
use Rattle.pt_product.specs.TrackSets.{track_set}
use Rattle.pt_product.proofs.combination.track_set.Given as goal

abbrev pub invariant-loop-track : goal.invariant-loop-track
invariant-loop-track l = record {
  sum : fold (λ set i. set + 2 ^ i) l.set (drop l.track-index l.map) ≡ track_set l.map;
  small : l.set ≤ 512 * l.track-index;
}
