use Rattle.std.proofs.Common.{sym, ◌∙◌}
use Rattle.pt_code.specs.Component.{component}
use Rattle.pt_code.proofs.Deciding.{code-decided, code-even}
use Rattle.pt_code.proofs.least.compare_entry.Goals as goal

pub returns-in_default-clause-order : goal.returns-in_default-clause-order
returns-in_default-clause-order c =
    code-decided (component c.args.piece.now) c.requires.component c.requires.connected c.args.entry c.args.best.now.entry c.requires.entry c.requires.best.within
    c.compare_states-by_outputs.result.0 c.compare_states-by_outputs.ensures.order c.in_default.not-Equal

pub returns-clause-order : goal.returns-clause-order
returns-clause-order c =
    code-even (component c.args.piece.now) c.requires.component c.requires.connected c.args.entry c.args.best.now.entry c.requires.entry c.requires.best.within
    c.in_ok-by_links.by_links (sym c.in-Equal.is ∙ c.compare_states-by_outputs.ensures.order) c.in_ok-by_links.ensures.order
