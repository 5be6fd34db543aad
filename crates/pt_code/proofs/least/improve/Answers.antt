use Rattle.std.proofs.Common.{◌+◌, ℕ, sym, subst}
use Rattle.pt_code.specs.Component.{component}
use Rattle.pt_code.specs.Parts.{Leads}
use Rattle.pt_code.proofs.Leading.{leads-new, leads-still}
use Rattle.pt_code.proofs.least.improve.Goals as goal

pub returns-in-Less-clause-leads : goal.returns-in-Less-clause-leads
returns-in-Less-clause-leads c =
    let p = component c.args.piece.now in
    subst (λ (e : ℕ). Leads p (c.args.entry + 1) e) (sym c.set_best.ensures.entry) (leads-new p c.args.entry c.args.best.entry c.args.order c.requires.leads c.requires.order c.in-Less.is)

pub returns-in_default-clause-leads : goal.returns-in_default-clause-leads
returns-in_default-clause-leads c = leads-still (component c.args.piece.now) c.args.entry c.args.best.entry c.args.order c.requires.leads c.requires.order c.in_default.not-Less
