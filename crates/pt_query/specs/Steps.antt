-- What one step from a handle shows.
use Rattle.std.specs.Prelude.{ℕ}
use Rattle.pt_sets.specs.Words.{sign_vector}
use Rattle.pt_sets.specs.Sets.{VectorSet, SameSet, residual}

-- the vector of the sign l is not in X, and the residual by the letter l is X again
abbrev pub IsStill : ℕ → VectorSet → ℕ → Type 0
IsStill t X l = (¬ X (sign_vector t l)) × SameSet t (residual X l) X
