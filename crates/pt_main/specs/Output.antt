-- The output of a script and its status.
use Rattle.std.specs.Prelude.{ℕ, ◌<◌, ◌≡◌, ◌⊎◌, Bool, true, false, List, [], ◌∷◌, ◌++◌, length}
use Rattle.pt_syntax.specs.declared.kinds.ReadRefusal.{ReadRefusal}
use Rattle.pt_syntax.specs.Lists.{Script, Done}
use Rattle.pt_read.specs.declared.command.Command.{Command}
use Rattle.pt_read.specs.Scope.{State}
use Rattle.pt_read.specs.Reader.{IsRefusedWith}
use Rattle.pt_script.specs.declared.fault.SessionFault.{SessionFault}
use Rattle.pt_script.specs.State.{Standing}
use Rattle.pt_script.specs.Step.{StepFails, in_scope}
use Rattle.pt_script.specs.Texts.{refusal_line, fault_line, too_long}
use Rattle.pt_main.specs.Runs.{Turn, GoesOn, HasExited, HasRun, ComesTo}

-- all commands were answered, or those up to the first `exit`
abbrev pub IsAnswered : List ℕ → ℕ → List Turn → Type 0
IsAnswered text bound turns = (s : Standing) × (left : Script) × HasRun text bound turns s left × (HasExited turns ⊎ (GoesOn turns × (left ≡ Done)))

-- the first refusal comes after these commands, and has this line: the next command cannot be read
abbrev pub IsUnreadable : List ℕ → ℕ → List Turn → List ℕ → Type 0
IsUnreadable text bound turns line =
    (s : Standing) × (left : Script) × (e : ReadRefusal) × HasRun text bound turns s left × GoesOn turns
    × IsRefusedWith left s.scope e × (line ≡ refusal_line e)

-- or it is read, and refused
abbrev pub IsUnanswerable : List ℕ → ℕ → List Turn → List ℕ → Type 0
IsUnanswerable text bound turns line =
    (s : Standing) × (scope : State) × (c : Command) × (fault : SessionFault) × ComesTo text bound turns s scope c
    × StepFails (in_scope scope s) c bound fault × (line ≡ fault_line bound fault)

-- or the whole text is too long
abbrev pub IsTooLong : List ℕ → List Turn → List ℕ → Type 0
IsTooLong text turns line = (4194304 < length text) × (turns ≡ []) × (line ≡ too_long)

abbrev pub IsRefused : List ℕ → ℕ → List Turn → List ℕ → Type 0
IsRefused text bound turns line = IsUnreadable text bound turns line ⊎ IsUnanswerable text bound turns line ⊎ IsTooLong text turns line

-- the run ends after these commands: at the end of the text, at `exit`, or with the line of the first refusal
abbrev pub Ends : List ℕ → ℕ → List Turn → List ℕ → Bool → Type 0
Ends text bound turns line refused = (IsAnswered text bound turns × (line ≡ []) × (refused ≡ false)) ⊎ (IsRefused text bound turns line × (refused ≡ true))

abbrev pub replies : List Turn → List ℕ
replies [] = []
replies (turn ∷ earlier) = replies earlier ++ turn.reply

-- the output of a text, and whether its status is Refused
abbrev pub IsOutput : List ℕ → ℕ → List ℕ → Bool → Type 0
IsOutput text bound out refused = (turns : List Turn) × (line : List ℕ) × Ends text bound turns line refused × (out ≡ replies turns ++ line)

-- ---- what may have been written when a run is cut off

abbrev pub IsFrontOf : List ℕ → List ℕ → Type 0
IsFrontOf front whole = (rest : List ℕ) × (whole ≡ front ++ rest)

-- the run comes as far as after these commands, or to the line of its refusal
abbrev pub ComesAsFar : List ℕ → ℕ → List Turn → List ℕ → Type 0
ComesAsFar text bound turns line = ((s : Standing) × (left : Script) × HasRun text bound turns s left × (line ≡ [])) ⊎ IsRefused text bound turns line

-- a front of the output, which tells nothing of commands that were not reached
abbrev pub IsFrontOfOutput : List ℕ → ℕ → List ℕ → Type 0
IsFrontOfOutput text bound out = (turns : List Turn) × (line : List ℕ) × ComesAsFar text bound turns line × IsFrontOf out (replies turns ++ line)
