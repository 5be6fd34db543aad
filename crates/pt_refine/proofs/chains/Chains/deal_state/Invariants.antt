use Rattle.std.proofs.Common.{◌≡◌, ◌^◌, length}
use Rattle.pt_refine.proofs.Chaining.{DealsDown}
use Rattle.pt_refine.proofs.chains.Chains.deal_state.Given as goal

abbrev pub invariant-loop-next : goal.invariant-loop-next
invariant-loop-next l = record {
  deals : DealsDown l.table l.state l.next l.initial.rows.items l.rows.items;
  count : length l.rows.items ≡ 2 ^ l.table.tracks;
}

abbrev pub decreases-loop-next : goal.decreases-loop-next
decreases-loop-next l = l.next
