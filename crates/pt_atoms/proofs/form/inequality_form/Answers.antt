use Rattle.std.proofs.Common.{◌≡◌, ℤ, subst, w64, arith}
use Rattle.std.proofs.lemmas.Int.{ints, to_z-of_z}
use Rattle.pt_atoms.specs.Atoms.{normal_at}
use Rattle.pt_atoms.specs.Numbers.{IsCoefficient}
use Rattle.pt_atoms.specs.declared.Kind.TheVariants.{Le}
use Rattle.pt_atoms.proofs.LoopSteps.{if_ok_by, gcd_without_zero}
use Rattle.pt_atoms.proofs.form.inequality_form.Goals as goal

pub returns : goal.returns
returns c =
    let cs = c.args.coefficients.now in
    let small : IsCoefficient c.args.constant = omega (arith, ints) in
    record {
      form = if_ok_by _ _ c.inequality_by.result (λ n e. (c.gcd_of.result, gcd_without_zero c.gcd_of.result cs c.gcd_of.ensures.gcd, subst (λ (x : ℤ). n ≡ normal_at Le c.gcd_of.result cs x) (to_z-of_z w64 c.args.constant c.ranges.constant) e)) c.inequality_by.ensures;
      range = record { coefficients = c.gcd_of.ensures.within; constant = small };
    }
