use Rattle.pt_formula.proofs.Wide.{wide_added, sum_fits, sum_kept}
use Rattle.pt_formula.proofs.form.wide_sum.Goals as goal

pub overflow_add-result : goal.overflow_add-result
overflow_add-result c =
    sum_fits c.args.a c.args.by c.args.b _ c.ranges.a c.ranges.by c.ranges.b
    (wide_added c.args.a c.args.by c.args.b c.from.result c.from-2.result c.from-3.result c.ranges.a c.ranges.by c.ranges.b c.from.ensures c.from-2.ensures c.from-3.ensures)

pub returns : goal.returns
returns c =
    sum_kept c.args.a c.args.by c.args.b _ c.ranges.a c.ranges.by c.ranges.b
    (wide_added c.args.a c.args.by c.args.b c.from.result c.from-2.result c.from-3.result c.ranges.a c.ranges.by c.ranges.b c.from.ensures c.from-2.ensures c.from-3.ensures)
