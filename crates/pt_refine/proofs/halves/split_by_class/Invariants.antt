use Rattle.std.proofs.Common.{◌≡◌, ◌^◌, ◌≤◌, length, get_or}
use Rattle.pt_sets.specs.Automata.{next_of}
use Rattle.pt_refine.specs.Halving.{Refines, Owes}
use Rattle.pt_refine.specs.Partitions.{IsPartition, IsUnmarked}
use Rattle.pt_refine.proofs.halves.split_by_class.Given as goal

abbrev pub invariant-loop-letter : goal.invariant-loop-letter
invariant-loop-letter l = record {
  partition : IsPartition l.partition;
  unmarked : IsUnmarked l.partition;
  size : length l.partition.class.items ≡ l.table.states;
  grows : length l.initial.partition.starts.items ≤ length l.partition.starts.items;
  refines : Refines l.table (λ q. get_or l.partition.class.items q 0);
  owes : Owes l.table.states (2 ^ l.table.tracks) (next_of l.table) (λ q. get_or l.initial.partition.class.items q 0) (λ q. get_or l.partition.class.items q 0) l.class l.letter;
}
