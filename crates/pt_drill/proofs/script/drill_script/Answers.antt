use Rattle.std.proofs.Common.{◌≡◌, ◌∙◌, ◌+◌, suc, ap, arith}
use Rattle.pt_drill.specs.Drill.{after_group, state_at}
use Rattle.pt_drill.proofs.Groups.{one_more}
use Rattle.pt_drill.proofs.script.drill_script.Goals as goal

pub loop-i-preserved : goal.loop-i-preserved
loop-i-preserved c =
    let next : suc c.loop-i.i ≡ c.loop-i.i + 1 = omega arith in
    record {
      written = one_more c.args.seed c.loop-i.i c.loop-i.draws.state c.group-group.result c.loop-i.text.items c.write_definition.new.out.items c.write_questions.new.out.items
          c.loop-i.invariant.written c.loop-i.invariant.at c.group-group.ensures.numbers c.in_ok-write_definition.ensures c.in_ok-write_questions.ensures;
      at = c.group-group.ensures.state ∙ ap after_group c.loop-i.invariant.at ∙ ap (state_at c.args.seed) next;
    }
