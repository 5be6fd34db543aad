-- A command at which tests cite the laws.
use Rattle.pt_read.specs.declared.command.Command.{Command}
use Rattle.pt_read.specs.declared.command.CommandKind.TheVariants as kind

abbrev pub check : Command
check = record { position = record { line = 1; column = 1 }; kind = kind.CheckSat }
