use Rattle.std.proofs.Common.{ℕ, ◌<◌}
use Rattle.pt_handles.specs.Handles.{SetOfHandle}
use Rattle.pt_query.specs.Steps.{IsStill}
use Rattle.pt_query.proofs.membership.is_empty.Given as goal

abbrev pub invariant-loop-letter : goal.invariant-loop-letter
invariant-loop-letter g l = (r : ℕ) → r < l.letter → IsStill l.a.tracks (SetOfHandle (g.P.Codes.lists l.pass) l.a) r
