-- What each command has: a reply and a new state, or its own refusal.
use Rattle.std.specs.Prelude.{ℕ, ⊤, List}
use Rattle.pt_read.specs.declared.command.Command.{Command}
use Rattle.pt_script.specs.declared.fault.SessionFault.{SessionFault}
use Rattle.pt_script.specs.declared.fault.SessionFault.TheVariants.{Full, NoMemory}
use Rattle.pt_script.specs.State.{Standing}
use Rattle.pt_script.specs.Step.{Step, StepFails}

-- not for want of memory, nor for a full shard
abbrev pub IsOwnFault : SessionFault → Type 0
IsOwnFault (Full shard count) = ⊥
IsOwnFault NoMemory = ⊥
IsOwnFault fault = ⊤

abbrev pub HasReply : Standing → Command → ℕ → Type 0
HasReply s c bound = (reply : List ℕ) × (new : Standing) × Step s c bound reply new

abbrev pub HasRefusal : Standing → Command → ℕ → Type 0
HasRefusal s c bound = (fault : SessionFault) × IsOwnFault fault × StepFails s c bound fault
