use Rattle.std.proofs.Common.{arith}
use Rattle.pt_io.proofs.Streaming.{took-at-most-then, on_refusal}
use Rattle.pt_io.proofs.whole.read_all.Goals as goal

pub returns-in_err-take_some-clause-taken : goal.returns-in_err-take_some-clause-taken
returns-in_err-take_some-clause-taken g c =
    on_refusal _ _ (took-at-most-then _ (g.S.Source.left c.loop-chunk.source) _ c.loop-chunk.all.items _ _ c.loop-chunk.invariant.took c.in_err-take_some.ensures.taken (omega arith))
