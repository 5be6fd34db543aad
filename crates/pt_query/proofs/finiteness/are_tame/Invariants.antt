use Rattle.std.proofs.Common.{ℕ, ◌<◌, []}
use Rattle.std.specs.Prelude.{slice_index_or}
use Rattle.pt_scc.specs.Components.{lists_of}
use Rattle.pt_query.specs.Tame.{IsTame}
use Rattle.pt_query.proofs.finiteness.are_tame.Given as goal

abbrev pub invariant-loop-i : goal.invariant-loop-i
invariant-loop-i l = (j : ℕ) → j < l.i → IsTame l.table (slice_index_or (lists_of l.parts) j [])
