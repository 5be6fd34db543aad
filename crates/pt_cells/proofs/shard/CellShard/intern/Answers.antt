use Rattle.std.proofs.Common.{◌∷◌, [], length, ap, arith, length-append}
use Rattle.pt_cells.proofs.Pushes.{Begins-push}
use Rattle.pt_cells.proofs.Walks.{walk-found, walk-missed}
use Rattle.pt_cells.proofs.shard.CellShard.intern.Goals as goal

pub returns-in-Ok-true-clause-ok : goal.returns-in-Ok-true-clause-ok
returns-in-Ok-true-clause-ok c =
    let walked = c.loop-position.invariant in
    walk-found c.args.code.now c.loop-position.pass.codes c.step.new.pass.codes c.loop-position.position c.in-Ok-true.field-0 walked.lacks walked.len c.in-Ok-true.ensures.ok c.in-Ok-true.field-0-test

pub loop-position-preserved : goal.loop-position-preserved
loop-position-preserved c =
    let walked = c.loop-position.invariant in
    let more = c.in-Ok-false.ensures.ok in
    let longer = length-append c.loop-position.pass.codes (more.0 ∷ []) in
    record {
      of = c.in-Ok-false.ensures.of;
      extends = rw more.1 (Begins-push c.args.pass.now.codes c.loop-position.pass.codes more.0 walked.extends);
      len = omega (arith, ap length more.1, longer, walked.len);
      lacks = walk-missed c.args.code.now c.loop-position.pass.codes c.step.new.pass.codes c.in-Ok-false.field-0 walked.lacks more c.in-Ok-false.field-0-test;
    }
