use Rattle.std.proofs.Common.{◌≡◌, ◌≤◌, length}
use Rattle.pt_query.specs.Fresh.{AreRows, IsListed, FoundAll, words_of}
use Rattle.pt_query.proofs.listing.first_words.Given as goal

abbrev pub invariant-loop-letters : goal.invariant-loop-letters
invariant-loop-letters l = record {
  count : length l.rows.items ≡ l.letters;
  rows : AreRows l.table l.rows.items;
  listed : IsListed l.table l.start l.letters (words_of l.found.items);
  all : FoundAll l.table l.start l.letters (words_of l.found.items);
  room : length l.found.items ≤ l.k;
}
