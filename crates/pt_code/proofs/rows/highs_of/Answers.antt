use Rattle.std.proofs.Common.{◌≡◌, ◌≤◌, ◌∙◌, arith}
use Rattle.pt_code.specs.Component.{component}
use Rattle.pt_code.proofs.Bits.{highs-by}
use Rattle.pt_code.proofs.rows.highs_of.Goals as goal

pub returns : goal.returns
returns c =
    let past : c.args.piece.now.states ≤ c.loop-state.state = c.loop-state-test.false in
    let end : c.loop-state.state ≤ c.args.piece.now.states = c.loop-state.auto.state-end in
    let all : c.loop-state.state ≡ c.args.piece.now.states = omega arith in
    highs-by (component c.args.piece.now) c.lowest-low.result c.loop-state.highs.items c.lowest-low.ensures.within (c.loop-state.invariant.count ∙ all) c.lowest-low.ensures.least
    (λ q h. c.loop-state.invariant.each q (omega arith))
