use Rattle.std.proofs.Common.{◌≡◌, length, get_or}
use Rattle.pt_refine.specs.Partitions.{IsPartition, IsUnmarked}
use Rattle.pt_refine.proofs.HalvingSteps.{SplitTo}
use Rattle.pt_refine.proofs.halves.partition_of.Given as goal

abbrev pub invariant-loop-class : goal.invariant-loop-class
invariant-loop-class l = record {
  partition : IsPartition l.partition;
  unmarked : IsUnmarked l.partition;
  size : length l.partition.class.items ≡ length l.classes.numbers.items;
  split : SplitTo (length l.classes.numbers.items) l.class (λ q. get_or l.classes.numbers.items q 0) (λ q. get_or l.partition.class.items q 0);
}
