use Rattle.std.proofs.Common.{◌^◌, false, slice_index}
use Rattle.pt_sets.specs.Automata.{output_of}
use Rattle.pt_handles.specs.Adopting.{AreRows}
use Rattle.pt_handles.proofs.pieces.part_outputs.Given as goal

abbrev pub invariant-loop-state : goal.invariant-loop-state
invariant-loop-state l = AreRows false (2 ^ l.table.tracks) l.state-index (λ k s. output_of l.table (slice_index l.part k) s) l.rows.items
