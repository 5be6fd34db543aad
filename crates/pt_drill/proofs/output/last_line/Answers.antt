use Rattle.std.proofs.Common.{sym, arith}
use Rattle.pt_drill.proofs.LastLines.{behind-self, next-feed, next-other, at-end}
use Rattle.pt_drill.proofs.output.last_line.Goals.{then-text-i-eq10, else-text-i-eq10}
use Rattle.pt_drill.proofs.output.last_line.Goals as goal

pub loop-i-init : goal.loop-i-init
loop-i-init c = record { before = omega arith; within = omega arith; same = sym (behind-self c.args.text.now) }

pub loop-i-preserved : goal.loop-i-preserved
loop-i-preserved c = elim c.if-text-i-eq10.branch [
  | then-text-i-eq10 w ↦ record {
    before = omega arith;
    within = omega arith;
    same = next-feed c.args.text.now c.loop-i.start c.if-text-i-eq10.start c.loop-i.i w.start-is c.loop-i.auto.i c.loop-i-test.true w.if-text-i-eq10.true c.loop-i.invariant.same;
  }
  | else-text-i-eq10 w ↦ record {
    before = omega arith;
    within = omega arith;
    same = next-other c.args.text.now c.loop-i.start c.if-text-i-eq10.start c.loop-i.i w.start-is c.loop-i.auto.i c.loop-i-test.true w.if-text-i-eq10.false c.loop-i.invariant.same;
  }
]

pub returns : goal.returns
returns c = at-end c.args.text.now c.loop-i.start c.loop-i.i c.loop-i-test.false c.loop-i.invariant.within c.loop-i.invariant.same
