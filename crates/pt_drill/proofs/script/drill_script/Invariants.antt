use Rattle.std.proofs.Common.{◌≡◌}
use Rattle.pt_drill.specs.Drill.{drill_text, state_at}
use Rattle.pt_drill.proofs.script.drill_script.Given as goal

abbrev pub invariant-loop-i : goal.invariant-loop-i
invariant-loop-i l = record { written : l.text.items ≡ drill_text l.fn.seed l.i; at : l.draws.state ≡ state_at l.fn.seed l.i }
