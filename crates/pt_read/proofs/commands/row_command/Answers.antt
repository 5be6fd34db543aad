use Rattle.pt_read.proofs.Verbs.{enough}
use Rattle.pt_read.proofs.commands.row_command.Goals as goal

pub understood-requires-clause-some : goal.understood-requires-clause-some
understood-requires-clause-some c = enough c.args.at c.args.row.forms.now c.args.row.more c.args.items.now _ c.requires.row (rw c.in-None.is at c.fault_of_items.ensures)
