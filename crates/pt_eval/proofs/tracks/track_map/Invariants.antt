use Rattle.std.proofs.Common.{◌≡◌, take}
use Rattle.pt_eval.specs.Parts.{tracks_of}
use Rattle.pt_eval.proofs.tracks.track_map.Given as goal

abbrev pub invariant-loop-v : goal.invariant-loop-v
invariant-loop-v l = l.map.items ≡ tracks_of (take l.v-index l.inner) l.outer
