use mir.Syntax.{w128}
use Rattle.std.proofs.Common.{◌≡◌, ◌↔◌, ℤ, IsTrue, length, map, pos, to_z, of_z, ◌-ℤ◌, subst, ap, ◌∙◌, arith}
use Rattle.std.proofs.lemmas.Int.{ints}
use Rattle.pt_sets.specs.Words.{digits, sign_vector}
use Rattle.pt_atoms.specs.Sums.{dot}
use Rattle.pt_atoms.specs.Atoms.{Meets, sum_at}
use Rattle.pt_atoms.proofs.SumLemmas.{dot-sign}
use Rattle.pt_atoms.proofs.residuals.meets.Goals as goal

pub returns : goal.returns
returns c =
    let n = c.args.normal.now in
    let ds = digits (length n.coefficients) c.args.sign in
    let sum = c.digit_sum-sum.result in
    let value : sum ≡ dot n.coefficients (map pos ds) = c.digit_sum-sum.ensures.value ∙ ap (λ s. sum_at s c.args.sign) c.as_slice.ensures in
    let negation = dot-sign n.coefficients (length n.coefficients) c.args.sign in
    let point : to_z w128 (of_z w128 (pos 0 -ℤ to_z w128 (of_z w128 sum))) ≡ dot n.coefficients (sign_vector (length n.coefficients) c.args.sign) = omega (arith, ints, negation, value) in
    let constant : to_z w128 (of_z w128 n.constant) ≡ n.constant = omega (arith, ints) in
    subst (λ (x : ℤ). IsTrue c.holds_at.result ↔ Meets n.kind (dot n.coefficients (sign_vector (length n.coefficients) c.args.sign)) x) constant
    (subst (λ (x : ℤ). IsTrue c.holds_at.result ↔ Meets n.kind x (to_z w128 (of_z w128 n.constant))) point c.holds_at.ensures)
