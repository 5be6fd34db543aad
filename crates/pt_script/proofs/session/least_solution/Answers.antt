use Rattle.std.proofs.Common.{subst, sym, List}
use Rattle.std.specs.Prelude.{ℤ}
use Rattle.pt_handles.specs.Handles.{SetOfHandle}
use Rattle.pt_script.specs.declared.solution.LeastSolution.TheVariants.{Narrow}
use Rattle.pt_script.specs.Step.{FindsLeast}
use Rattle.pt_script.proofs.session.least_solution.Goals as goal

pub returns-in-Ok-Some-clause-some : goal.returns-in-Ok-Some-clause-some
returns-in-Ok-Some-clause-some g c =
    let least = rw c.in-Ok-Some.field-0-is at c.in-Ok-Some.ensures.least in
    let narrow = rw c.in-Ok-Some.field-0-is at c.in-Ok-Some.ensures.narrow in
    subst (λ (z : List ℤ). FindsLeast c.args.solutions.tracks (SetOfHandle (g.P.Codes.lists c.args.pass.now) c.args.solutions) (Narrow z)) (sym c.new.ensures) (least, narrow)
