use Rattle.std.proofs.Common.{◌≡◌, ◌-◌, ◌^◌, ◌≤◌, length, get_or}
use Rattle.pt_sets.specs.Automata.{next_of}
use Rattle.pt_refine.specs.Halving.{Refines, Pends}
use Rattle.pt_refine.specs.Partitions.{IsPartition, IsUnmarked}
use Rattle.pt_refine.proofs.halves.stable_classes.Given as goal

abbrev pub invariant-loop-class : goal.invariant-loop-class
invariant-loop-class g l = record {
  partition : IsPartition l.partition;
  unmarked : IsUnmarked l.partition;
  size : length l.partition.class.items ≡ l.table.states;
  refines : Refines l.table (λ q. get_or l.partition.class.items q 0);
  pends : Pends l.table.states (2 ^ l.table.tracks) (next_of l.table) (λ q. get_or l.partition.class.items q 0) l.class;
  rows : length l.rows.items ≡ 2 ^ l.table.tracks;
}

abbrev pub decreases-loop-class : goal.decreases-loop-class
decreases-loop-class g l = l.table.states - l.class
