-- What contracts see of a reader.
use Rattle.std.specs.Prelude.{ℕ, List, Option, None}
use Rattle.pt_syntax.specs.declared.kinds.ReadRefusal.{ReadRefusal}
use Rattle.pt_syntax.specs.Rest as lists

-- what is left of the text, and the refusal that was answered
pub record Rest : Type 0 where
  pub lists : lists.Rest
  pub refused : Option ReadRefusal

abbrev pub at_start : List ℕ → Rest
at_start text = record { lists = lists.at_start text; refused = None }
