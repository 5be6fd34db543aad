use Rattle.std.proofs.Common.{◌≡◌, ◌≤◌, ◌^◌, min, drop}
use Rattle.pt_syntax.specs.Bytes.{value_behind, numeral_value}
use Rattle.pt_terms.proofs.numerals.magnitude.Given as goal

-- the digits that are left, behind the value so far, give what all give
abbrev pub invariant-loop-b : goal.invariant-loop-b
invariant-loop-b l = record {
  capped : min (value_behind l.value (drop l.b-index l.digits)) (2 ^ 63) ≡ min (numeral_value l.digits) (2 ^ 63);
  small : l.value ≤ 2 ^ 63;
}
