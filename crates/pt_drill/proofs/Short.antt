-- Scripts of mode drill are short.
use Rattle.std.proofs.Common.{◌≡◌, ℕ, zero, suc, ◌+◌, ◌*◌, ◌≤◌, ◌<◌, List, ◌++◌, length, length-append, subst, arith}
use Rattle.std.specs.Prelude.{decimal}
use Rattle.std.proofs.lemmas.Fmt.{length-decimal-le}
use Rattle.pt_drill.specs.declared.draws.Group.{Group}
use Rattle.pt_drill.specs.Drill.{definition, questions, groups, group_at, state_at, drill_text}

-- the numbers of a group have at most two digits
pub record IsSmall (g : Group) : Type 0 where
  pub a : g.a < 100
  pub b : g.b < 100
  pub c : g.c < 100
  pub m : g.m < 100
  pub d : g.d < 100
  pub e : g.e < 100

small : (state : ℕ) → IsSmall (group_at state)
small state = record { a = omega arith; b = omega arith; c = omega arith; m = omega arith; d = omega arith; e = omega arith }

two_digits : (n : ℕ) → n < 100 → length (decimal n) ≤ 2
two_digits n h = length-decimal-le 2 n (omega arith) (omega (arith, h)) (omega (arith, h))

four_digits : (n : ℕ) → n < 10000 → length (decimal n) ≤ 4
four_digits n h = length-decimal-le 4 n (omega arith) (omega (arith, h)) (omega (arith, h))

short-definition : (i : ℕ) (g : Group) → i < 4096 → IsSmall g → length (definition i g) ≤ 200
short-definition i g few is =
    simp length-append (omega (arith, four_digits i (omega (arith, few)), two_digits g.a is.a, two_digits g.b is.b, two_digits g.c is.c, two_digits g.m is.m, two_digits g.d is.d, two_digits g.e is.e))

short-questions : (i : ℕ) → i < 4096 → length (questions i) ≤ 200
short-questions i few = simp length-append (omega (arith, four_digits i (omega (arith, few))))

three : (a b c : List ℕ) (m : ℕ) → length a ≤ m → length b ≤ 200 → length c ≤ 200 → length (a ++ b ++ c) ≤ m + 400
three a b c m first second third = simp length-append (omega arith)

short-groups : (seed i : ℕ) → i ≤ 4096 → length (groups seed i) ≤ i * 400
short-groups seed zero few = omega arith
short-groups seed (suc i) few =
    let next : i * 400 + 400 ≡ suc i * 400 = omega arith in
    subst (λ (n : ℕ). length (groups seed (suc i)) ≤ n) next
    (three (groups seed i) (definition i (group_at (state_at seed i))) (questions i) (i * 400) (short-groups seed i (omega (arith, few)))
    (short-definition i (group_at (state_at seed i)) (omega (arith, few)) (small (state_at seed i))) (short-questions i (omega (arith, few))))

pub short : (seed size : ℕ) → size ≤ 4096 → length (drill_text seed size) ≤ 4194304
short seed size few = simp length-append (omega (arith, few, short-groups seed size few))
