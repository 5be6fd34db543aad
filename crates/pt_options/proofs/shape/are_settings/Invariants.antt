use Rattle.std.specs.Prelude.{string_bytes}
use Rattle.pt_options.proofs.Shapes.{EachBefore, OnceBefore}
use Rattle.pt_options.proofs.shape.are_settings.Given as goal

abbrev pub invariant-loop-i : goal.invariant-loop-i
invariant-loop-i l = record { each : EachBefore string_bytes l.words l.i; once : OnceBefore string_bytes l.words l.i }
