use Rattle.std.proofs.Common.{◌≡◌, ◌-◌, ◌<◌, ◌≤◌, length, drop}
use Rattle.pt_drill.specs.Summary.{last_line}
use Rattle.pt_drill.proofs.LastLines.{behind}
use Rattle.pt_drill.proofs.output.last_line.Given as goal

abbrev pub invariant-loop-i : goal.invariant-loop-i
invariant-loop-i l = record {
  before : l.start < l.i;
  within : l.start ≤ length l.text;
  same : last_line l.text ≡ behind (drop l.start l.text) (drop (l.i - 1) l.text);
}
