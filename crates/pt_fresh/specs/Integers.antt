-- Division with remainder, absolute value and comparison of integers.
use Rattle.std.specs.Prelude.{◌≡◌, ℕ, ℤ, pos, ◌+ℤ◌, ◌*ℤ◌, ◌≤ℤ◌, ◌<ℤ◌, unsigned_abs}
use Rattle.pt_fresh.specs.declared.Relation.{Relation}
use Rattle.pt_fresh.specs.declared.Relation.TheVariants.{Equal, AtMost, AtLeast, Below, Above}

-- Euclid's division: a is n times q and a remainder r from 0 to |n| - 1
pub record IsDivision (a n q r : ℤ) : Type 0 where
  pub whole : a ≡ n *ℤ q +ℤ r
  pub least : pos 0 ≤ℤ r
  pub below : r <ℤ pos (unsigned_abs n)

abbrev pub IsQuotient : ℤ → ℤ → ℤ → Type 0
IsQuotient a n q = (r : ℤ) × IsDivision a n q r

abbrev pub IsRemainder : ℤ → ℤ → ℤ → Type 0
IsRemainder a n r = (q : ℤ) × IsDivision a n q r

-- x is a multiple of n
abbrev pub Divides : ℕ → ℤ → Type 0
Divides n x = (k : ℤ) × (x ≡ pos n *ℤ k)

abbrev pub Relates : Relation → ℤ → ℤ → Type 0
Relates Equal x y = x ≡ y
Relates AtMost x y = x ≤ℤ y
Relates AtLeast x y = y ≤ℤ x
Relates Below x y = x <ℤ y
Relates Above x y = y <ℤ x
