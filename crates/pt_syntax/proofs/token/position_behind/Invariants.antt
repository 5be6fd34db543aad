use Rattle.std.proofs.Common.{◌≡◌, ◌+◌, ◌≤◌, drop}
use Rattle.pt_syntax.specs.Lexemes.{place_behind}
use Rattle.pt_syntax.proofs.token.position_behind.Given as goal

abbrev pub invariant-loop-b : goal.invariant-loop-b
invariant-loop-b l = record {
  told : place_behind l.at (drop l.b-index l.bytes) ≡ place_behind l.fn.position l.bytes;
  line : l.at.line ≤ l.fn.position.line + l.b-index;
  column : l.at.column ≤ l.fn.position.column + l.b-index;
}
