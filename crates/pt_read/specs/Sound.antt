-- Scopes in which each rest of a text is read, and each command that is read can be answered or refused.
use Rattle.std.specs.Prelude.{◌⊎◌, length, Option}
use Rattle.pt_formula.specs.Formulas.{IsFormula}
use Rattle.pt_syntax.specs.declared.kinds.ReadRefusal.{ReadRefusal}
use Rattle.pt_syntax.specs.Lists.{Script}
use Rattle.pt_terms.specs.Sorts.{AreSorted}
use Rattle.pt_terms.specs.Sound.{AreBelow}
use Rattle.pt_read.specs.declared.command.Command.{Command}
use Rattle.pt_read.specs.Scope.{State}
use Rattle.pt_read.specs.Lasting.{IsSound}
use Rattle.pt_read.specs.Reader.{IsNext, IsRefusedWith}

-- the formula is well formed, its variables were given out and its atoms are sorted, and names and assertions are in range and in order
pub record IsSoundScope (s : State) : Type 0 where
  pub formula : IsFormula s.formula
  pub below : AreBelow s.formula (length s.given)
  pub sorted : AreSorted s.formula s.given
  pub sound : IsSound s

-- what is left has an answer: no command, the next one, or a refusal
abbrev pub HasAnswer : Script → State → Type 0
HasAnswer left s =
    ((answer : Option Command) × (rest : Script) × (new : State) × IsNext answer left s rest new)
    ⊎ ((e : ReadRefusal) × IsRefusedWith left s e)
