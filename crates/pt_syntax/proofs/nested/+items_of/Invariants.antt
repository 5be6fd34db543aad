use Rattle.std.proofs.Common.{◌≡◌, ◌-◌, ◌≤◌, suc, length}
use Rattle.pt_syntax.specs.Lists.{reading}
use Rattle.pt_syntax.specs.Within.{IsWithin}
use Rattle.pt_syntax.specs.Cursors.{tokens_at, with_items}
use Rattle.pt_syntax.proofs.nested.+items_of.Given as goal

-- each list that is opened has one more around it
abbrev pub decreases-items_of : goal.decreases-items_of
decreases-items_of l = 256 - l.around

-- the items so far, in front of those that are left
abbrev pub invariant-loop-items : goal.invariant-loop-items
invariant-loop-items l = record {
  told : with_items l.items (reading (suc l.around) (tokens_at l.bytes l.at)) ≡ reading (suc l.around) (tokens_at l.bytes l.fn.start);
  within : IsWithin l.bytes l.at;
  behind : l.fn.start.offset ≤ l.at.offset;
}

abbrev pub decreases-loop-items : goal.decreases-loop-items
decreases-loop-items l = length l.bytes - l.at.offset
