use Rattle.std.proofs.Common.{length}
use Rattle.pt_query.proofs.ordered.+least_after.Given as goal

abbrev pub decreases-least_after : goal.decreases-least_after
decreases-least_after l = length l.bound.now
