-- What the parts of a run do, between two commands.
use Rattle.std.specs.Prelude.{ℕ, ◌≡◌, ◌⊎◌, true, false, Bool, List, [], Option, Some, None, ⊤}
use Rattle.pt_io.specs.Streams.{Wrote, WroteFront}
use Rattle.pt_syntax.specs.declared.kinds.ReadKind.{ReadKind}
use Rattle.pt_syntax.specs.declared.kinds.ReadKind.TheVariants.{NoMemory as Read_no_memory}
use Rattle.pt_read.specs.declared.command.Command.{Command}
use Rattle.pt_script.specs.declared.fault.SessionFault.{SessionFault}
use Rattle.pt_script.specs.declared.fault.SessionFault.TheVariants as fault
use Rattle.pt_script.specs.State.{Standing}
use Rattle.pt_script.specs.Step.{Step, StepFails, is_exit}
use Rattle.pt_script.specs.Texts.{fault_line}
use Rattle.pt_main.specs.declared.status.Status.{Status}
use Rattle.pt_main.specs.declared.status.Status.TheVariants.{Done, Refused, Usage, ReadFault, WriteFault, NoMemory, StoreFull}

-- a last line was written, a front of it, or for want of memory nothing
abbrev pub EndsWithLine : List ℕ → Option (List ℕ) → Option (List ℕ) → Status → Type 0
EndsWithLine line old new Refused = Wrote old new line
EndsWithLine line old new WriteFault = WroteFront old new line
EndsWithLine line old new NoMemory = Wrote old new []
EndsWithLine line old new _ = ⊥

-- a reply was written, or a front of it; the run goes on but after `exit`
abbrev pub EndsWithReply : List ℕ → Bool → Option (List ℕ) → Option (List ℕ) → Option Status → Type 0
EndsWithReply reply ends old new None = (ends ≡ false) × Wrote old new reply
EndsWithReply reply ends old new (Some Done) = (ends ≡ true) × Wrote old new reply
EndsWithReply reply ends old new (Some WriteFault) = WroteFront old new reply
EndsWithReply reply ends old new _ = ⊥

-- a command is answered by this reply, and this stands after it
abbrev pub AnsweredBy : Standing → Command → ℕ → Standing → (List ℕ → Type 0) → Type 0
AnsweredBy s c bound new P = (reply : List ℕ) × Step s c bound reply new × P reply

-- a command is refused
abbrev pub RefusedBy : Standing → Command → ℕ → (List ℕ → Type 0) → Type 0
RefusedBy s c bound P = (fault : SessionFault) × StepFails s c bound fault × P (fault_line bound fault)

-- what was written for a command, where no fault was answered before, and whether and how the run ends with it
abbrev pub CommandTold : Standing → Command → ℕ → Standing → Option (List ℕ) → Option (List ℕ) → Option Status → Type 0
CommandTold s c bound new before after None = (is_exit c.kind ≡ false) × AnsweredBy s c bound new (Wrote before after)
CommandTold s c bound new before after (Some Done) = (is_exit c.kind ≡ true) × AnsweredBy s c bound new (Wrote before after)
CommandTold s c bound new before after (Some Refused) = RefusedBy s c bound (Wrote before after)
CommandTold s c bound new before after (Some WriteFault) =
    AnsweredBy s c bound new (WroteFront before after) ⊎ RefusedBy s c bound (WroteFront before after)
CommandTold s c bound new before after (Some NoMemory) = Wrote before after []
CommandTold s c bound new before after (Some (StoreFull shard)) = Wrote before after []
CommandTold s c bound new before after (Some _) = ⊥

-- the command was answered
abbrev pub IfAnswered : Option Status → Type 0 → Type 0
IfAnswered None P = P
IfAnswered (Some Done) P = P
IfAnswered (Some _) P = ⊤

-- the run ends with a full shard
abbrev pub IfStops : Option Status → (ℕ → Type 0) → Type 0
IfStops (Some (StoreFull shard)) P = P shard
IfStops _ P = ⊤

-- the status is one that a run on a text has
abbrev pub IsOfText : Status → Type 0
IsOfText Usage = ⊥
IsOfText ReadFault = ⊥
IsOfText _ = ⊤

-- a refusal that is answered by a line: want of memory has none
abbrev pub HasReadLine : ReadKind → Type 0
HasReadLine Read_no_memory = ⊥
HasReadLine _ = ⊤

-- and so has a fault: a full shard has none either
abbrev pub HasLine : SessionFault → Type 0
HasLine fault.NoMemory = ⊥
HasLine (fault.Full shard count) = ⊥
HasLine _ = ⊤

-- how a run ends with a fault that has no line
abbrev pub EndsWithoutLine : SessionFault → Option Status → Type 0
EndsWithoutLine fault None = HasLine fault
EndsWithoutLine fault.NoMemory (Some status) = status ≡ NoMemory
EndsWithoutLine (fault.Full shard count) (Some status) = status ≡ StoreFull shard
EndsWithoutLine _ (Some status) = ⊥
