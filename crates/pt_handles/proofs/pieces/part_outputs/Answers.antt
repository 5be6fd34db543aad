use Rattle.std.proofs.Common.{◌^◌, false, slice_index}
use Rattle.pt_sets.specs.Automata.{output_of}
use Rattle.pt_handles.proofs.Filling.{rows-step}
use Rattle.pt_handles.proofs.pieces.part_outputs.Goals as goal

pub loop-state-preserved : goal.loop-state-preserved
loop-state-preserved c =
    rows-step false (2 ^ c.args.table.now.tracks) c.loop-state.state-index (λ k s. output_of c.args.table.now (slice_index c.args.part.now k) s)
    c.loop-state.rows.items c.push_outputs.new.rows.items c.loop-state.invariant c.in_ok-push_outputs.ensures
