use Rattle.std.proofs.Common.{◌≤◌, ◌-◌, ◌+◌, length}
use Rattle.pt_io.specs.Streams.{Took}
use Rattle.pt_io.proofs.whole.read_all.Given as goal

-- the bytes so far were taken
abbrev pub invariant-loop-chunk : goal.invariant-loop-chunk
invariant-loop-chunk g l = record {
  took : Took (g.S.Source.left l.initial.source) (g.S.Source.left l.source) l.all.items;
  within : length l.all.items ≤ l.limit + 1;
  counted : g.S.Source.faults l.initial.source ≤ g.S.Source.faults l.source;
}

abbrev pub decreases-loop-chunk : goal.decreases-loop-chunk
decreases-loop-chunk g l = l.limit + 1 - length l.all.items
