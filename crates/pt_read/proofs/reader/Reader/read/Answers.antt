use Rattle.pt_syntax.specs.Rest.{lists_left}
use Rattle.pt_read.proofs.ReadingLaws.{nothing-read, command-read}
use Rattle.pt_read.proofs.reader.Reader.read.Goals as goal

pub returns-in_default-clause-reads : goal.returns-in_default-clause-reads
returns-in_default-clause-reads c =
    rw (← c.self.view_is) (nothing-read (lists_left c.self.inside.lists) (lists_left c.next_list.new.self) c.args.scope.now (rw c.in_default.is at c.in_ok-list.ensures.next))

pub returns-clause-reads : goal.returns-clause-reads
returns-clause-reads c =
    rw (← c.self.view_is)
    (command-read c.in-Some.list.position c.in-Some.list.items (lists_left c.self.inside.lists) (lists_left c.next_list.new.self) c.args.scope.now c.elaborate.new.self c.in_ok-command.command
    (rw c.in-Some.is at c.in_ok-list.ensures.next) (rw c.as_slice.ensures at c.in_ok-command.ensures.elaborated))
