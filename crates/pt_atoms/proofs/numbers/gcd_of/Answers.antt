use Rattle.std.proofs.Common.{◌≡◌, ◌+◌, ◌∷◌, [], get_or, drop, pos, rules, arith, ap, ◌∙◌, sym, subst, w64, List, ℤ, unsigned_abs}
use Rattle.std.proofs.lemmas.Int.{to_z-of_z}
use Rattle.std.proofs.lemmas.List.{drop_all}
use mir.Val.{SFits}
use Rattle.std.specs.List.{AllByRecursion}
use Rattle.std.specs.Int.{IsGcd}
use Rattle.pt_atoms.specs.Sums.{IsGcdOf}
use Rattle.pt_atoms.specs.Numbers.{IsCoefficient}
use Rattle.pt_atoms.proofs.LoopSteps.{left_at, gcd_step, gcd_alone}
use Rattle.pt_atoms.proofs.numbers.gcd_of.Goals as goal

pub loop-a-preserved : goal.loop-a-preserved
loop-a-preserved c =
    let cs = c.args.coefficients.now in
    let i = c.loop-a.a-index in
    let fits : SFits w64 (get_or cs i (pos 0)) = search rules in
    let value : c.unsigned_abs.result ≡ unsigned_abs (get_or cs i (pos 0)) = c.unsigned_abs.ensures.value ∙ ap unsigned_abs (to_z-of_z w64 _ fits) in
    let left : drop i cs ≡ get_or cs i (pos 0) ∷ drop (i + 1) cs = left_at cs i c.loop-a-test.true in
    let gcd : IsGcd c.loop-a.g (unsigned_abs (get_or cs i (pos 0))) c.gcd-g.result = rw (← value) c.gcd-g.ensures in
    let within : IsCoefficient (get_or cs i (pos 0)) = omega (arith, value, c.unsigned_abs.ensures.bound) in (
      λ d h. c.loop-a.invariant.0 d (subst (λ (s : List ℤ). IsGcdOf d (pos c.loop-a.g ∷ s)) (sym left) (gcd_step c.loop-a.g c.gcd-g.result d _ _ gcd h)),
      λ h. c.loop-a.invariant.1 (subst (λ (s : List ℤ). AllByRecursion IsCoefficient s) (sym left) (within, h)),
    )

pub returns-clause-gcd : goal.returns-clause-gcd
returns-clause-gcd c =
    let cs = c.args.coefficients.now in
    let none : drop c.loop-a.a-index cs ≡ [] = drop_all c.loop-a.a-index cs c.loop-a-test.false in
    c.loop-a.invariant.0 c.loop-a.g (subst (λ (s : List ℤ). IsGcdOf c.loop-a.g (pos c.loop-a.g ∷ s)) (sym none) (gcd_alone c.loop-a.g))
