use Rattle.std.proofs.Common.{◌≡◌, length}
use Rattle.pt_project.specs.Closing.{AreSources}
use Rattle.pt_project.proofs.sources.sources.Given as goal

abbrev pub invariant-loop-source : goal.invariant-loop-source
invariant-loop-source l = record {
  count : length l.lists.items ≡ l.table.states;
  sources : AreSources l.table l.zero l.one l.source l.lists.items;
}
