-- A run of a script: its commands are answered in order, each read after the one before was answered. A relation, since
-- whether a formula has a solution is a fact and no test.
use Rattle.std.specs.Prelude.{ℕ, ◌≤◌, ◌≡◌, true, false, List, [], ◌∷◌, length, Some, ⊤}
use Rattle.pt_syntax.specs.Lists.{Script, script}
use Rattle.pt_read.specs.declared.command.Command.{Command}
use Rattle.pt_read.specs.Scope.{State}
use Rattle.pt_read.specs.Reader.{IsNext}
use Rattle.pt_script.specs.State.{Standing, initial}
use Rattle.pt_script.specs.Step.{Step, in_scope, is_exit}

-- a command that was answered
pub record Turn : Type 0 where
  pub command : Command
  -- what was in force when it was answered: the scope before, and the nodes that the command added
  pub scope : State
  pub reply : List ℕ

-- a run goes on until `exit` was answered
abbrev pub GoesOn : List Turn → Type 0
GoesOn [] = ⊤
GoesOn (turn ∷ earlier) = is_exit turn.command.kind ≡ false

abbrev pub HasExited : List Turn → Type 0
HasExited [] = ⊥
HasExited (turn ∷ earlier) = is_exit turn.command.kind ≡ true

-- From its start these commands of the text were answered, the last one first in the list; then this stands, and these
-- commands are left. A text of more than 4,194,304 bytes has no run.
abbrev pub HasRun : List ℕ → ℕ → List Turn → Standing → Script → Type 0
HasRun text bound [] s left = (length text ≤ 4194304) × (s ≡ initial) × (left ≡ script text)
HasRun text bound (turn ∷ earlier) s left =
    (before : Standing) × (commands : Script) × HasRun text bound earlier before commands × GoesOn earlier
    × IsNext (Some turn.command) commands before.scope left turn.scope
    × Step (in_scope turn.scope before) turn.command bound turn.reply s

-- After these commands, while `before` stands, the run comes to this one: it is read, and `scope` has the nodes that it added.
pub record ComesTo (text : List ℕ) (bound : ℕ) (turns : List Turn) (before : Standing) (scope : State) (c : Command) : Type 0 where
  pub commands : Script
  pub left : Script
  pub run : HasRun text bound turns before commands
  pub going : GoesOn turns
  pub read : IsNext (Some c) commands before.scope left scope
