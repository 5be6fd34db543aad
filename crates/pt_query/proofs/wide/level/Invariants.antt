use Rattle.pt_query.specs.Spreads.{IsLevel}
use Rattle.pt_query.proofs.wide.level.Given as goal

abbrev pub invariant-loop : goal.invariant-loop
invariant-loop l = IsLevel l.table l.start l.counter l.row.items
