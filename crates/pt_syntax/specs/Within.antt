-- Where in a text a reader may stand.
use Rattle.std.specs.Prelude.{ℕ, ◌+◌, ◌≤◌, List, length}
use Rattle.pt_syntax.specs.declared.token.Cursor.{Cursor}

-- A cursor stands in a text that is no longer than a reader takes, and neither its line nor its column is past its offset.
pub record IsWithin (bytes : List ℕ) (c : Cursor) : Type 0 where
  pub offset : c.offset ≤ length bytes
  pub line : c.position.line ≤ c.offset + 1
  pub column : c.position.column ≤ c.offset + 1
  pub size : length bytes ≤ 4194304
