use Rattle.std.proofs.Common.{◌≡◌, ℕ, length}
use Rattle.std.specs.Prelude.{slice_get, slice_index, Some}
use Rattle.pt_handles.specs.declared.handle.Handle.{Handle}
use Rattle.pt_eval.specs.Outcomes.{outcome_in, known}
use Rattle.pt_eval.proofs.evaluation.handles_of.Given as goal

abbrev pub invariant-loop-root : goal.invariant-loop-root
invariant-loop-root l = record {
  count : length l.handles.items ≡ l.root-index;
  each : (k : ℕ) (h : Handle) → slice_get l.handles.items k ≡ Some h → outcome_in l.outcomes (slice_index l.roots k) ≡ known h;
}
