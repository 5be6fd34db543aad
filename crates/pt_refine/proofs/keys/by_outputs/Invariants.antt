use Rattle.std.proofs.Common.{◌-◌, ◌^◌, ◌≤◌}
use Rattle.pt_refine.specs.Refining.{Separates, SameOutputs, ToldBy}
use Rattle.pt_refine.proofs.keys.by_outputs.Given as goal

abbrev pub invariant-loop-from : goal.invariant-loop-from
invariant-loop-from g l = record {
  classes : Separates l.table.states (SameOutputs l.table l.from) (ToldBy l.table) l.classes.numbers.items l.classes.count;
  few : l.classes.count ≤ l.table.states;
  within : l.from ≤ 2 ^ l.table.tracks;
}

abbrev pub decreases-loop-from : goal.decreases-loop-from
decreases-loop-from g l = 2 ^ l.table.tracks - l.from
