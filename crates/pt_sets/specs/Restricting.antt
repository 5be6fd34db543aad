-- Letters, vectors and sets over some of the tracks.
use Rattle.std.specs.Prelude.{◌≡◌, ℕ, ◌<◌, List, length, map, slice_index_or, pos}
use Rattle.std.specs.List.{AllByRecursion}
use Rattle.pt_base.specs.Elements.{PairsByRecursion}
use Rattle.pt_sets.specs.Words.{Vector}
use Rattle.pt_sets.specs.Sets.{VectorSet}
use Rattle.pt_sets.specs.Languages.{Language}
use Rattle.pt_sets.specs.Costs.{restricted}

-- track i of k tracks is track m_i of t tracks, in increasing order
pub record IsTrackMap (k t : ℕ) (m : List ℕ) : Type 0 where
  pub count : length m ≡ k
  pub within : AllByRecursion (λ i. i < t) m
  pub increasing : PairsByRecursion (λ i j. i < j) m

-- the components in the tracks of the map
abbrev pub selected : List ℕ → Vector → Vector
selected m z = map (λ i. slice_index_or z i (pos 0)) m

-- the vectors whose components in the tracks of the map are in X, with no condition on the other components
abbrev pub widened : List ℕ → VectorSet → VectorSet
widened m X z = X (selected m z)

-- letter by letter
abbrev pub restricted_all : List ℕ → List ℕ → List ℕ
restricted_all m w = map (restricted m) w

-- the language of the widened set
abbrev pub widened_language : List ℕ → Language → Language
widened_language m X w s = X (restricted_all m w) (restricted m s)
