-- What stands between two commands of a session.
use Rattle.std.specs.Prelude.{ℕ, List, Bool, false, Option, None}
use Rattle.pt_read.specs.Scope.{State}
use Rattle.pt_read.specs.Scope as scope
use Rattle.pt_script.specs.declared.fault.SessionFault.{SessionFault}
use Rattle.pt_script.specs.declared.solution.LeastSolution.{LeastSolution}

pub record Standing : Type 0 where
  pub scope : State
  -- whether each command without a reply of its own is answered by `success`
  pub success : Bool
  -- the model, where one stands: what the last check-sat found
  pub model : Option LeastSolution
  -- the fault that was answered, if one was
  pub fault : Option SessionFault

abbrev pub initial : Standing
initial = record { scope = scope.initial; success = false; model = None; fault = None }

-- what is written for a command, and whether it ends the script
pub record Answer : Type 0 where
  pub bytes : List ℕ
  pub ends : Bool
