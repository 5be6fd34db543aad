use Rattle.std.proofs.Common.{length, get_or}
use Rattle.pt_refine.specs.Partitions.{IsPartition, IsMarked, KeepsClasses}
use Rattle.pt_refine.proofs.MarkedRows.{MarkedTo}
use Rattle.pt_refine.proofs.partition.Partition.mark_all.Given as goal

abbrev pub invariant-loop-state : goal.invariant-loop-state
invariant-loop-state l = record {
  partition : IsPartition l.self;
  keeps : KeepsClasses l.initial.self l.self;
  marked : MarkedTo (length l.initial.self.class.items) (length l.initial.self.starts.items) l.row l.touched.items l.state-index (λ q. get_or l.initial.self.class.items q 0) (IsMarked l.self);
}
