use Rattle.std.proofs.Common.{◌≤◌, ◌-◌, length, take}
use Rattle.pt_io.specs.Streams.{Wrote}
use Rattle.pt_io.proofs.whole.write_all.Given as goal

-- the bytes so far were appended
abbrev pub invariant-loop-at : goal.invariant-loop-at
invariant-loop-at g l = record {
  wrote : Wrote (g.K.Sink.written l.initial.sink) (g.K.Sink.written l.sink) (take l.at l.bytes);
  within : l.at ≤ length l.bytes;
  counted : g.K.Sink.faults l.initial.sink ≤ g.K.Sink.faults l.sink;
}

abbrev pub decreases-loop-at : goal.decreases-loop-at
decreases-loop-at g l = length l.bytes - l.at
