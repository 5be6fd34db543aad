use Rattle.std.proofs.Common.{◌≡◌, ◌^◌, ◌≤◌, length, get_or}
use Rattle.pt_refine.proofs.Chaining.{DealtTo}
use Rattle.pt_refine.proofs.chains.Chains.deal.Given as goal

abbrev pub invariant-loop-at : goal.invariant-loop-at
invariant-loop-at l = record {
  from : get_or l.partition.starts.items l.class 0 ≤ l.at;
  dealt : DealtTo l.table (λ q. get_or l.partition.place.items q 0) (λ q. get_or l.partition.class.items q 0) l.class l.at l.rows.items;
  count : length l.rows.items ≡ 2 ^ l.table.tracks;
}
