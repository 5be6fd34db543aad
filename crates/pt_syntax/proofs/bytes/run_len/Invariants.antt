use Rattle.std.proofs.Common.{◌≡◌, ◌+◌, drop}
use Rattle.std.specs.List.{prefix_len}
use Rattle.pt_syntax.specs.Bytes.{is_symbol_byte}
use Rattle.pt_syntax.proofs.bytes.run_len.Given as goal

-- from here the run has what it has from the front, less what was passed
abbrev pub invariant-loop-i : goal.invariant-loop-i
invariant-loop-i l = l.i + prefix_len is_symbol_byte (drop l.i l.bytes) ≡ prefix_len is_symbol_byte l.bytes
