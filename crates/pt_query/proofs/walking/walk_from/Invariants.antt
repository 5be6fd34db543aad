use Rattle.std.proofs.Common.{◌-◌, ◌≤◌, length}
use Rattle.std.specs.Prelude.{slice_index}
use Rattle.pt_query.specs.Walks.{HasWalked}
use Rattle.pt_query.proofs.walking.walk_from.Given as goal

abbrev pub invariant-loop-place : goal.invariant-loop-place
invariant-loop-place l = record {
  walked : HasWalked l.table l.start l.walk l.place 0;
  before : l.place ≤ length l.walk.states.items;
}

abbrev pub decreases-loop-place : goal.decreases-loop-place
decreases-loop-place l = l.table.states - l.place

-- the state that the search began with
abbrev pub ghost-follow_all : goal.ghost-follow_all
ghost-follow_all a = slice_index a.walk.now.states.items 0
