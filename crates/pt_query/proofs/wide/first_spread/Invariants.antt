use Rattle.pt_query.proofs.SpreadSteps.{IsFirst}
use Rattle.pt_query.proofs.wide.first_spread.Given as goal

abbrev pub invariant-loop-state : goal.invariant-loop-state
invariant-loop-state l = IsFirst l.table l.row l.state l.spread.states.items l.spread.depths.items l.spread.places.items
