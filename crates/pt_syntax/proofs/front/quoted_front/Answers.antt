use Rattle.std.proofs.Common.{sym, ◌∙◌}
use Rattle.pt_syntax.proofs.FrontLemmas.{quoted_open, quoted_good, quoted_bad}
use Rattle.pt_syntax.proofs.front.quoted_front.Goals as goal

pub returns-then-end-behind : goal.returns-then-end-behind
returns-then-end-behind c = (quoted_open c.args.behind.now (sym c.first_of-end.ensures.place ∙ c.if-end-behind.true), tt)

pub returns-then-may_be_a_name : goal.returns-then-may_be_a_name
returns-then-may_be_a_name c = quoted_good c.args.behind.now c.first_of-end.result c.first_of-end.ensures.place c.first_of-end.ensures.within c.if-end-behind.false (sym c.if-may_be_a_name.true ∙ c.may_be_a_name.ensures)

pub returns-else-may_be_a_name : goal.returns-else-may_be_a_name
returns-else-may_be_a_name c = (quoted_bad c.args.behind.now c.first_of-end.result c.first_of-end.ensures.place c.if-end-behind.false (sym c.if-may_be_a_name.false ∙ c.may_be_a_name.ensures), tt)
