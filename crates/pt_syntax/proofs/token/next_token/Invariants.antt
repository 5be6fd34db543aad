use Rattle.std.proofs.Common.{◌≡◌, ◌-◌, ◌≤◌, length}
use Rattle.pt_syntax.specs.Within.{IsWithin}
use Rattle.pt_syntax.specs.Cursors.{tokens_at}
use Rattle.pt_syntax.proofs.token.next_token.Given as goal

-- gaps alone were passed
abbrev pub invariant-loop-at : goal.invariant-loop-at
invariant-loop-at l = record {
  told : tokens_at l.bytes l.at ≡ tokens_at l.bytes l.fn.start;
  within : IsWithin l.bytes l.at;
  behind : l.fn.start.offset ≤ l.at.offset;
}

abbrev pub decreases-loop-at : goal.decreases-loop-at
decreases-loop-at l = length l.bytes - l.at.offset
