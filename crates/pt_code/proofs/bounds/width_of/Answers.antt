use Rattle.std.proofs.Common.{inl, inr, ◌≡◌, ◌≤◌, length, ap, ◌∙◌, arith, below_more}
use Rattle.pt_code.specs.Component.{component}
use Rattle.pt_code.specs.Searching.{successors}
use Rattle.pt_code.proofs.Bounding.{successors-few}
use Rattle.pt_code.proofs.Nearby.{near-rise, near-end, near-row}
use Rattle.pt_code.proofs.bounds.width_of.Goals as goal

pub of-requires-clause-rise : goal.of-requires-clause-rise
of-requires-clause-rise c = near-rise (component c.args.piece.now) c.args.near.now.starts.items c.args.near.now.targets.items c.requires.near c.loop-state.state c.loop-state-test.true

pub of-requires-clause-end : goal.of-requires-clause-end
of-requires-clause-end c =
    let near = c.args.near.now in
    let end = near-end (component c.args.piece.now) near.starts.items near.targets.items c.requires.near c.loop-state.state c.loop-state-test.true in
    omega (arith, end, near.targets.ok.0)

pub loop-state-preserved : goal.loop-state-preserved
loop-state-preserved c =
    let p = component c.args.piece.now in
    let near = c.args.near.now in
    let q = c.loop-state.state in
    let row : length c.of.result.now ≡ length (successors p q) = ap length (c.of.ensures ∙ near-row p near.starts.items near.targets.items c.requires.near q c.loop-state-test.true) in
    let few = successors-few p c.requires.component q in
    let wide = c.wider_of-width.ensures in
    record {
      few = elim wide.one [ inl still ↦ let before = c.loop-state.invariant.few in omega (arith, still, before) | inr new ↦ omega (arith, new, row, few, c.requires.component.few_states) ];
      widest = below_more (λ r. length (successors p r) ≤ c.wider_of-width.result) q (λ r h. let before = c.loop-state.invariant.widest r h in let kept = wide.mine in omega (arith, before, kept)) (let kept = wide.other in omega (arith, row, kept));
    }
