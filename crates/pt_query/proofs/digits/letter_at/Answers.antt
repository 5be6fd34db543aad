use Rattle.std.proofs.Common.{◌≡◌, ℕ, ◌^◌, ◌<◌, ◌≤◌, length, drop, ap, rules, arith, length-drop}
use Rattle.std.specs.Prelude.{FitsSigned, unsigned_abs}
use Rattle.std.specs.Int.{w128}
use Rattle.std.proofs.lemmas.Int.{to_z-of_z}
use Rattle.pt_sets.specs.Words.{Vector, parities}
use Rattle.pt_query.specs.Shifting.{shifted}
use Rattle.pt_query.proofs.Shifts.{parities-small, length-shifted}
use Rattle.pt_query.proofs.digits.letter_at.Goals as goal

-- the letter of the tracks from i on
small-from : (k i : ℕ) (z : Vector) → length z ≤ 10 → parities (shifted k (drop i z)) < 2 ^ 10
small-from k i z h = parities-small (shifted k (drop i z)) (omega (arith, length-shifted k (drop i z), length-drop i z))

pub overflow_mul-letter : goal.overflow_mul-letter
overflow_mul-letter c =
    let small = small-from c.args.k c.loop-i.i c.args.z.now c.requires.few in
    let same : c.loop-i.letter ≡ parities (shifted c.args.k (drop c.loop-i.i c.args.z.now)) = c.loop-i.invariant in
    omega arith

pub overflow_add-letter : goal.overflow_add-letter
overflow_add-letter c =
    let small = small-from c.args.k c.loop-i.i c.args.z.now c.requires.few in
    let same : c.loop-i.letter ≡ parities (shifted c.args.k (drop c.loop-i.i c.args.z.now)) = c.loop-i.invariant in
    let fits : FitsSigned w128 c.rem_euclid.result = search rules in
    let is = ap unsigned_abs (to_z-of_z w128 c.rem_euclid.result fits) in
    let digit = c.rem_euclid.ensures.upper_bound in
    omega arith
