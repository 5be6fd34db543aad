use Rattle.std.proofs.Common.{arith}
use Rattle.std.proofs.lemmas.List.{take_rest, length-drop}
use Rattle.pt_io.proofs.Streaming.{wrote-more, wrote-front, on_refusal}
use Rattle.pt_io.proofs.whole.write_all.Goals as goal

pub returns-in_err-at-clause-front : goal.returns-in_err-at-clause-front
returns-in_err-at-clause-front g c =
    on_refusal _ _ (wrote-front _ (g.K.Sink.written c.loop-at.sink) _ c.args.bytes.now c.loop-at.at c.loop-at.invariant.wrote c.in_err-at.ensures.kept)

pub loop-at-preserved : goal.loop-at-preserved
loop-at-preserved g c = record {
  wrote = wrote-more _ (g.K.Sink.written c.loop-at.sink) _ c.args.bytes.now c.loop-at.at c.in_ok-at.field-0 c.loop-at.invariant.wrote (rw take_rest at c.in_ok-at.ensures.appended);
  within = omega (arith, rw take_rest at c.in_ok-at.ensures.count, length-drop c.loop-at.at c.args.bytes.now);
  counted = omega arith;
}
