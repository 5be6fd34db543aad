use Rattle.std.proofs.Common.{◌≡◌, ◌+◌, drop}
use Rattle.pt_formula.specs.Costs.{track_of}
use Rattle.pt_eval.proofs.tracks.track.Given as goal

abbrev pub invariant-loop-i : goal.invariant-loop-i
invariant-loop-i l = track_of l.v l.variables ≡ l.i + track_of l.v (drop l.i l.variables)
