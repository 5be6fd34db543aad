use Rattle.std.proofs.Common.{subst}
use Rattle.pt_read.specs.Commands.{by_row}
use Rattle.pt_terms.specs.Gives.{Gives}
use Rattle.pt_read.proofs.Verbs.{row_forms}
use Rattle.pt_read.proofs.commands.command_named.Goals as goal

pub returns-in-Some-clause-gives : goal.returns-in-Some-clause-gives
returns-in-Some-clause-gives c = subst (λ r. Gives (λ k. k) c.row_command.result c.args.work.now c.row_command.new.work (by_row c.args.context.now c.args.at c.args.name_at r c.args.items.now)) c.in-Some.ensures (c.row_command.ensures.gives c.args.name_at)

pub row_command-requires-clause-row : goal.row_command-requires-clause-row
row_command-requires-clause-row c = row_forms c.in-Some.row c.args.name.now c.in-Some.ensures
