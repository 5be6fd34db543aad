use Rattle.std.proofs.Common.{ℕ, ◌∷◌, drop, pos}
use Rattle.std.specs.List.{AllByRecursion}
use Rattle.pt_atoms.specs.Sums.{IsGcdOf}
use Rattle.pt_atoms.specs.Numbers.{IsCoefficient}
use Rattle.pt_atoms.proofs.numbers.gcd_of.Given as goal

abbrev pub invariant-loop-a : goal.invariant-loop-a
invariant-loop-a l =
    ((d : ℕ) → IsGcdOf d (pos l.g ∷ drop l.a-index l.coefficients) → IsGcdOf d (pos l.first ∷ l.coefficients))
    × (AllByRecursion IsCoefficient (drop l.a-index l.coefficients) → AllByRecursion IsCoefficient l.coefficients)
