use Rattle.std.proofs.Common.{◌≡◌, ◌<◌, ◌-◌, suc, length, inl, inr, arith}
use Rattle.pt_fresh.proofs.Settlings.{close-fails}
use Rattle.pt_fresh.proofs.closing.close_nodes.Goals as goal

-- the refusal of one variable is the refusal of all
pub returns-in-Err-clause-makes : goal.returns-in-Err-clause-makes
returns-in-Err-clause-makes c =
    let next : c.loop-left.left ≡ suc (c.loop-left.left - 1) = omega arith in
    let within : c.loop-left.left - 1 < length c.args.side.now = omega arith in
    elim c.in-Err.ensures.makes [
      | inl p ↦ inl (close-fails c.args.side.now c.args.formula.now c.args.a c.args.at (c.loop-left.left - 1) c.loop-left.left c.loop-left.node c.loop-left.formula c.in-Err.fault _ next within c.loop-left.invariant.told p)
      | inr p ↦ inr p
    ]
