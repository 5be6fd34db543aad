use Rattle.std.proofs.Common.{◌≤◌, ◌-◌, length}
use Rattle.pt_query.specs.Fresh.{IsListed, words_of}
use Rattle.pt_query.proofs.listing.fill.Given as goal

abbrev pub invariant-loop-alloc : goal.invariant-loop-alloc
invariant-loop-alloc l = record {
  listed : IsListed l.table l.start l.count (words_of l.found.items);
  room : length l.found.items ≤ l.k;
}

abbrev pub decreases-loop-alloc : goal.decreases-loop-alloc
decreases-loop-alloc l = l.k - length l.found.items
