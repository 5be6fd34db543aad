use Rattle.std.proofs.Common.{◌≡◌, ℕ, ◌<◌}
use Rattle.pt_sets.specs.Automata.{next_of, output_of}
use Rattle.pt_handles.specs.Knowing.{table_of}
use Rattle.pt_handles.proofs.exploring.state_keeps_sign.Given as goal

abbrev pub invariant-loop-sign : goal.invariant-loop-sign
invariant-loop-sign l = (s : ℕ) → s < l.sign → output_of (table_of l.tracks l.states l.outputs l.edges) l.state s ≡ output_of (table_of l.tracks l.states l.outputs l.edges) (next_of (table_of l.tracks l.states l.outputs l.edges) l.state s) s
