use Rattle.std.proofs.Common.{◌≡◌, drop, map}
use Rattle.pt_grammar.specs.Verbs.{row_in, shown_row}
use Rattle.pt_grammar.proofs.verbs.find_row.Given as goal

-- the row is one of those that are left, or there is none
abbrev pub invariant-loop-row : goal.invariant-loop-row
invariant-loop-row l = row_in (map shown_row (drop l.row-index l.rows)) l.name ≡ row_in (map shown_row l.fn.rows) l.fn.name
