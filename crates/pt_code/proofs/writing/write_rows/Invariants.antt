use Rattle.std.proofs.Common.{◌≡◌, ◌++◌, take}
use Rattle.pt_code.specs.Component.{component}
use Rattle.pt_code.specs.Parts.{outputs_part}
use Rattle.pt_code.proofs.writing.write_rows.Given as goal

abbrev pub invariant-loop-state : goal.invariant-loop-state
invariant-loop-state l = l.numbers.items ≡ l.fn.numbers.items ++ outputs_part (component l.piece) (take l.state-index l.states)
