-- What queries tell of a set of vectors.
use Rattle.std.specs.Prelude.{◌≡◌, ◌⊎◌, ℕ, ℤ, ◌<◌, ◌≤◌, List, Vec, [], ◌∷◌, length, unsigned_abs}
use Rattle.std.specs.declared.alloc.Global.{Global}
use Rattle.std.specs.List.{AllByRecursion}
use Rattle.pt_sets.specs.Words.{Vector}
use Rattle.pt_sets.specs.Sets.{VectorSet}
use Rattle.pt_sets.specs.Shortlex.{IsShortestWord, IsLeastMember, IsFirstMembers}
use Rattle.pt_query.specs.declared.fault.WitnessFault.{WitnessFault}
use Rattle.pt_query.specs.declared.fault.WitnessFault.TheVariants.{Wide, NoMemory}

-- no vector of t components is in X
abbrev pub IsEmptySet : ℕ → VectorSet → Type 0
IsEmptySet t X = (z : Vector) → length z ≡ t → X z → ⊥

-- each vector of t components in X is in Y
abbrev pub IsSubset : ℕ → VectorSet → VectorSet → Type 0
IsSubset t X Y = (z : Vector) → length z ≡ t → X z → Y z

-- a number bounds the size of every component of every member, so the set is finite
abbrev pub IsBounded : ℕ → VectorSet → Type 0
IsBounded t X = (B : ℕ) × ((z : Vector) → length z ≡ t → X z → AllByRecursion (λ x. unsigned_abs x ≤ B) z)

-- the shortest word of a vector has n letters
abbrev pub HasLetters : ℕ → Vector → Type 0
HasLetters n z = (w : List ℕ) × IsShortestWord w z × (length w ≡ n)

-- the shortest word has at most 128 letters: each component fits 128 bits
abbrev pub IsNarrow : Vector → Type 0
IsNarrow z = (n : ℕ) × HasLetters n z × (n ≤ 128)

-- the least member is wide where its shortest word has more than 128 letters; want of memory may come always
abbrev pub IsWideCause : ℕ → VectorSet → WitnessFault → Type 0
IsWideCause t X (Wide letters) = (z : Vector) × IsLeastMember t X z × HasLetters letters z × (128 < letters)
IsWideCause t X NoMemory = Unit {0}

-- lists of components as vectors
abbrev pub vectors_of : List (Vec ℤ Global) → List Vector
vectors_of [] = []
vectors_of (v ∷ vs) = v.items ∷ vectors_of vs

-- the first of the vectors whose shortest word has more than 128 letters has n
abbrev pub IsFirstWide : ℕ → List Vector → Type 0
IsFirstWide n [] = ⊥
IsFirstWide n (z ∷ zs) = (HasLetters n z × (128 < n)) ⊎ (IsNarrow z × IsFirstWide n zs)

-- one of the first k members is wide: of the first j, for some j of at most k, the first wide one has so many letters
abbrev pub IsListCause : ℕ → VectorSet → ℕ → WitnessFault → Type 0
IsListCause t X k (Wide letters) = (j : ℕ) × (j ≤ k) × ((zs : List Vector) × IsFirstMembers t X j zs × IsFirstWide letters zs)
IsListCause t X k NoMemory = Unit {0}
