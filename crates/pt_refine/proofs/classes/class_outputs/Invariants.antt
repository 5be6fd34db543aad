use Rattle.std.proofs.Common.{◌≡◌, ℕ, ◌/◌, ◌%◌, ◌<◌, false, length, get_or}
use Rattle.pt_sets.specs.Automata.{output_of}
use Rattle.pt_refine.proofs.classes.class_outputs.Given as goal

abbrev pub invariant-loop-cell : goal.invariant-loop-cell
invariant-loop-cell l = record {
  size : length l.rows.items ≡ l.cell;
  cells : (i : ℕ) → i < l.cell → get_or l.rows.items i false ≡ output_of l.table (get_or l.members (i / l.letters) 0) (i % l.letters);
}
