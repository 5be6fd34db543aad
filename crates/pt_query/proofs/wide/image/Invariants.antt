use Rattle.pt_query.specs.Spreads.{IsImageTo}
use Rattle.pt_query.proofs.wide.image.Given as goal

abbrev pub invariant-loop-state : goal.invariant-loop-state
invariant-loop-state l = IsImageTo l.table l.row l.state l.next.items
