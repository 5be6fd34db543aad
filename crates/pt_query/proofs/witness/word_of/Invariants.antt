use Rattle.std.proofs.Common.{◌≡◌, ◌<◌, ◌++◌, ◌∷◌, [], length, reverse}
use Rattle.pt_query.specs.Walks.{access}
use Rattle.pt_query.proofs.witness.word_of.Given as goal

abbrev pub invariant-loop-at : goal.invariant-loop-at
invariant-loop-at l = record {
  inside : l.at < length l.walk.states.items;
  word : access l.walk.parents.items l.walk.letters.items l.at ++ reverse l.word.items ≡ access l.walk.parents.items l.walk.letters.items l.place ++ l.sign ∷ [];
}

abbrev pub decreases-loop-at : goal.decreases-loop-at
decreases-loop-at l = l.at
