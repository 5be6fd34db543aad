-- Strongly connected parts of an automaton, and whether their sets are finite.
use Rattle.std.specs.Prelude.{◌≡◌, ◌⊎◌, ℕ, ◌<◌, List, Option, None, Some, length, slice_index}
use Rattle.pt_sets.specs.Words.{Vector, IsLetter, sign_vector}
use Rattle.pt_sets.specs.Sets.{VectorSet}
use Rattle.pt_sets.specs.Automata.{Automaton, next_of, SetOfState}
use Rattle.pt_query.specs.Queries.{IsEmptySet}

-- no vector but that of one sign is in the set
abbrev pub IsSingle : ℕ → VectorSet → Type 0
IsSingle t X = (s : ℕ) × IsLetter t s × ((z : Vector) → length z ≡ t → X z → z ≡ sign_vector t s)

-- a letter leads from the state to itself
abbrev pub HasLoop : Automaton → ℕ → Type 0
HasLoop a q = (l : ℕ) × IsLetter a.tracks l × (next_of a q l ≡ q)

-- where the first state of a part stands on a cycle, it has no vector but that of one sign
abbrev pub IsTame : Automaton → List ℕ → Type 0
IsTame a part = (1 < length part) ⊎ HasLoop a (slice_index part 0) → IsSingle a.tracks (SetOfState a (slice_index part 0))

-- the state with the empty set, if there is one
abbrev pub IsEmptyState : Automaton → Option ℕ → Type 0
IsEmptyState a None = (q : ℕ) → q < a.states → IsEmptySet a.tracks (SetOfState a q) → ⊥
IsEmptyState a (Some q) = (q < a.states) × IsEmptySet a.tracks (SetOfState a q)

-- the vector of the sign l is not in the set of the state, and no vector is in that of the successor by l
abbrev pub IsOff : Automaton → ℕ → ℕ → Type 0
IsOff a q l = (¬ SetOfState a q (sign_vector a.tracks l)) × IsEmptySet a.tracks (SetOfState a (next_of a q l))
