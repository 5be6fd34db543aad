use Rattle.std.proofs.Common.{◌≡◌, ◌≢◌, ◌<◌, ◌++◌, ℕ, List, Global, String, string_bytes}
use Rattle.std.specs.Prelude.{slice_index_or}
use Rattle.pt_options.proofs.shape.stands_in.Given as goal

abbrev pub invariant-loop-word : goal.invariant-loop-word
invariant-loop-word l = (k : ℕ) (d : String Global) (value : List ℕ) → k < l.word-index → string_bytes (slice_index_or l.words k d) ≢ l.start ++ value
