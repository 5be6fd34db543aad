use Rattle.std.proofs.Common.{◌≡◌, length, get_or}
use Rattle.std.specs.HashMap.{get, hash_map_len}
use Rattle.pt_refine.specs.Refining.{HasNumbered, same_pair}
use Rattle.pt_refine.proofs.keys.split.Given as goal

abbrev pub invariant-loop-q : goal.invariant-loop-q
invariant-loop-q l = record {
  size : length l.numbers.items ≡ l.q;
  had : HasNumbered (λ i. get_or l.classes i 0) (λ i. get_or l.keys i 0) (get same_pair l.known) (hash_map_len l.known) l.q (λ i. get_or l.numbers.items i 0);
}
