use Rattle.std.proofs.Common.{ℕ, ◌<◌, false}
use Rattle.std.specs.Prelude.{IsTrue, slice_index_or}
use Rattle.pt_sets.specs.Automata.{next_of}
use Rattle.pt_query.proofs.ordered.leads_into.Given as goal

abbrev pub invariant-loop-letter : goal.invariant-loop-letter
invariant-loop-letter l = (m : ℕ) → m < l.letter → IsTrue (slice_index_or l.row (next_of l.table l.state m) false) → ⊥
