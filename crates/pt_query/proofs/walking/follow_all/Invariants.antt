use Rattle.std.proofs.Common.{◌≤◌, length}
use Rattle.pt_query.specs.Walks.{HasWalked}
use Rattle.pt_query.proofs.walking.follow_all.Given as goal

abbrev pub invariant-loop-letter : goal.invariant-loop-letter
invariant-loop-letter g l = record {
  walked : HasWalked l.table g.start l.walk l.place l.letter;
  grows : length l.fn.walk.states.items ≤ length l.walk.states.items;
}

abbrev pub ghost-follow : goal.ghost-follow
ghost-follow g a = g.start
