use Rattle.std.proofs.Common.{◌≡◌, ◌+◌, drop}
use Rattle.std.specs.Prelude.{not}
use Rattle.std.specs.List.{prefix_len}
use Rattle.pt_syntax.specs.Bytes.{ends_line}
use Rattle.pt_syntax.proofs.bytes.line_len.Given as goal

-- from here the run has what it has from the front, less what was passed
abbrev pub invariant-loop-i : goal.invariant-loop-i
invariant-loop-i l = l.i + prefix_len (λ c. not (ends_line c)) (drop l.i l.bytes) ≡ prefix_len (λ c. not (ends_line c)) l.bytes
