use Rattle.std.proofs.Common.{◌≡◌, take}
use Rattle.pt_query.specs.Queries.{vectors_of}
use Rattle.pt_query.specs.Fresh.{words_of, values_of}
use Rattle.pt_query.proofs.listing.vectors.Given as goal

abbrev pub invariant-loop-i : goal.invariant-loop-i
invariant-loop-i l = vectors_of l.found.items ≡ values_of l.tracks (take l.i (words_of l.words))
