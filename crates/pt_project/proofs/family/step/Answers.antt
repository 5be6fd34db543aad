use Rattle.pt_project.proofs.FamilyVisits.{on-ok}
use Rattle.pt_project.proofs.StepLaws.{listed-successors}
use Rattle.pt_project.proofs.family.step.Goals as goal

pub returns-then-family-states-clause-members : goal.returns-then-family-states-clause-members
returns-then-family-states-clause-members c =
    listed-successors c.args.table.now c.args.zero c.args.one c.args.family.now c.push_successors.new.next.items c.in_order.new.states.items c.in_ok-push_successors.ensures c.in_order.ensures.kept c.in_order.ensures.others

pub returns-clause-members : goal.returns-clause-members
returns-clause-members c =
    on-ok c.take_numbers.result _ _ _ c.take_numbers.ensures.members c.take_numbers.ensures.members
    (λ first members y. (λ inside. (c.mark_successors.ensures.marked y).0 ((members y).0 inside), λ next. (members y).1 ((c.mark_successors.ensures.marked y).1 next)))
