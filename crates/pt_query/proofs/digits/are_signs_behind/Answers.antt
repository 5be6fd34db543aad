use Rattle.std.proofs.Common.{◌≡◌, inl, inr, get_or, ap, ◌∙◌, refl, rules, arith, to_z, of_z}
use Rattle.std.specs.Prelude.{ℤ, pos, FitsSigned}
use Rattle.std.specs.Int.{w128, int_shr}
use Rattle.std.proofs.lemmas.Int.{to_z-of_z}
use Rattle.pt_sets.specs.Words.{AreSigns}
use Rattle.pt_query.specs.Shifting.{shifted}
use Rattle.pt_query.proofs.Shifts.{signs-at, signs-from}
use Rattle.pt_query.proofs.digits.are_signs_behind.Goals as goal

pub returns-then-rest-clause-signs : goal.returns-then-rest-clause-signs
returns-then-rest-clause-signs c =
    let k = c.args.k in
    let x = get_or c.args.z.now c.loop-x.x-index (pos 0) in
    let fits : FitsSigned w128 x = search rules in
    let same : int_shr (to_z w128 (of_z w128 x)) k ≡ int_shr x k = ap (λ (y : ℤ). int_shr y k) (to_z-of_z w128 x fits) in
    let none : AreSigns (shifted k c.args.z.now) → ⊥ = λ signs. elim (signs-at k c.loop-x.x-index c.args.z.now (pos 0) c.loop-x-test.true signs) [
      | inl zero ↦ c.if-rest-ne0.true (ap (of_z w128) (same ∙ zero))
      | inr minus_one ↦ c.if-rest.true (ap (of_z w128) (same ∙ minus_one))
    ] in
    (λ h. absurd (cc), λ signs. absurd (none signs))

pub returns-clause-signs : goal.returns-clause-signs
returns-clause-signs c = (λ h. signs-from c.args.k c.args.z.now (pos 0) (λ j h. c.loop-x.invariant j (omega arith)), λ signs. refl)
