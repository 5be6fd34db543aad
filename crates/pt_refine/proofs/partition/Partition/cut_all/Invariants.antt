use Rattle.std.proofs.Common.{◌≡◌, ◌≤◌, length, get_or}
use Rattle.pt_refine.specs.Partitions.{IsPartition, IsMarked}
use Rattle.pt_refine.proofs.Cutting.{CutTo}
use Rattle.pt_refine.proofs.partition.Partition.cut_all.Given as goal

abbrev pub invariant-loop-class : goal.invariant-loop-class
invariant-loop-class l = record {
  partition : IsPartition l.self;
  size : length l.self.class.items ≡ length l.initial.self.class.items;
  grows : length l.initial.self.starts.items ≤ length l.self.starts.items;
  cut : CutTo (length l.initial.self.class.items) (length l.initial.self.starts.items) l.classes l.class-index (λ q. get_or l.initial.self.class.items q 0) (λ q. get_or l.self.class.items q 0) (IsMarked l.initial.self) (IsMarked l.self);
}
