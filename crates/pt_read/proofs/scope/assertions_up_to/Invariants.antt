use Rattle.std.proofs.Common.{◌≡◌, ◌≤◌, length, filter, take}
use Rattle.pt_read.proofs.Levels.{low}
use Rattle.pt_read.proofs.scope.assertions_up_to.Given as goal

-- the assertions from here on are of higher levels
abbrev pub invariant-loop-kept : goal.invariant-loop-kept
invariant-loop-kept l = record {
  front : filter (low l.level) l.assertions ≡ filter (low l.level) (take l.kept l.assertions);
  within : l.kept ≤ length l.assertions;
}

abbrev pub decreases-loop-kept : goal.decreases-loop-kept
decreases-loop-kept l = l.kept
