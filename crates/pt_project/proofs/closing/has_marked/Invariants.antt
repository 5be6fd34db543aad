use Rattle.std.proofs.Common.{ℕ, take}
use Rattle.pt_base.specs.Elements.{ContainsByRecursion}
use Rattle.pt_project.specs.Closing.{IsMarked}
use Rattle.pt_project.proofs.closing.has_marked.Given as goal

abbrev pub invariant-loop-state : goal.invariant-loop-state
invariant-loop-state l = (x : ℕ) → ContainsByRecursion x (take l.state-index l.family) → IsMarked l.marks x → ⊥
