use Rattle.std.proofs.Common.{◌≡◌, ◌<◌, ◌-◌, length, sym, ap, ◌∙◌, arith}
use Rattle.pt_code.specs.Component.{component}
use Rattle.pt_code.proofs.Bounding.{sweep-step}
use Rattle.pt_code.proofs.Nearby.{near-rise, near-end, near-row, All-successors}
use Rattle.pt_code.proofs.bounds.sweep.Goals as goal

pub of-requires-clause-rise : goal.of-requires-clause-rise
of-requires-clause-rise c = near-rise (component c.args.piece.now) _ _ c.requires.near _ (let early = c.loop-step-test.true in omega arith)

pub of-requires-clause-end : goal.of-requires-clause-end
of-requires-clause-end c =
    let near = c.args.near.now in
    let end = near-end (component c.args.piece.now) near.starts.items near.targets.items c.requires.near (c.args.piece.now.states - 1 - c.loop-step.step) (let early = c.loop-step-test.true in omega arith) in
    omega (arith, end, near.targets.ok.0)

pub best_of-best-requires-clause-within : goal.best_of-best-requires-clause-within
best_of-best-requires-clause-within c =
    let p = component c.args.piece.now in
    let near = c.args.near.now in
    let q = c.args.piece.now.states - 1 - c.loop-step.step in
    let in_q : q < c.args.piece.now.states = let early = c.loop-step-test.true in omega arith in
    let room : length c.deref.result.now ≡ c.args.piece.now.states = ap length c.deref.ensures.value ∙ sym c.loop-step.bounds.ok.0 ∙ c.loop-step.invariant.all in
    All-successors p c.requires.component q _ c.of.result.now (c.of.ensures ∙ near-row p near.starts.items near.targets.items c.requires.near q in_q) room

pub best_of-best-requires-clause-few : goal.best_of-best-requires-clause-few
best_of-best-requires-clause-few c =
    let p = component c.args.piece.now in
    let near = c.args.near.now in
    let q = c.args.piece.now.states - 1 - c.loop-step.step in
    let in_q : q < c.args.piece.now.states = let early = c.loop-step-test.true in omega arith in
    let row = ap length (c.of.ensures ∙ near-row p near.starts.items near.targets.items c.requires.near q in_q) in
    let wide = c.requires.widest q in_q in
    omega (arith, row, wide, c.requires.width)

pub loop-step-preserved : goal.loop-step-preserved
loop-step-preserved c =
    let p = component c.args.piece.now in
    let near = c.args.near.now in
    let q = c.args.piece.now.states - 1 - c.loop-step.step in
    let in_q : q < c.args.piece.now.states = let early = c.loop-step-test.true in omega arith in
    let row = c.of.ensures ∙ near-row p near.starts.items near.targets.items c.requires.near q in_q in
    record {
      all = c.loop-step.invariant.all;
      bounds = sweep-step p c.requires.component c.requires.connected c.args.highs.now c.args.width c.requires.widest q c.loop-step.bounds.items c.deref.result.now c.of.result.now c.index-own.result.now c.best_of-best.result
          (let all = c.loop-step.invariant.all in omega (arith, all, in_q, c.loop-step.bounds.ok.0)) row c.deref.ensures.value c.loop-step.invariant.bounds c.index-own.ensures c.best_of-best.ensures;
    }
