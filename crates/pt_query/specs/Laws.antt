-- What queries tell of sets with the same vectors.
use Rattle.std.specs.Prelude.{ℕ, ◌↔◌, List}
use Rattle.pt_sets.specs.Words.{Vector}
use Rattle.pt_sets.specs.Sets.{VectorSet}
use Rattle.pt_sets.specs.Costs.{CostIs, CostWithin, CostAbove, SameResidual, SamePair}
use Rattle.pt_sets.specs.Shortlex.{IsLeastMember, IsFirstMembers}
use Rattle.pt_query.specs.declared.fault.WitnessFault.TheVariants.{Wide}
use Rattle.pt_query.specs.Queries.{IsEmptySet, IsSubset, IsBounded, IsListCause}

-- what a query of one set tells of X it tells of Y
pub record TellsAlike (t : ℕ) (X Y : VectorSet) : Type 0 where
  pub empty : IsEmptySet t X ↔ IsEmptySet t Y
  pub bounded : IsBounded t X ↔ IsBounded t Y
  pub residuals : (n : ℕ) → CostIs (SameResidual t X) t n → CostIs (SameResidual t Y) t n
  pub least : (z : Vector) → IsLeastMember t X z → IsLeastMember t Y z
  pub first : (k : ℕ) (zs : List Vector) → IsFirstMembers t X k zs → IsFirstMembers t Y k zs
  pub list_cause : (k letters : ℕ) → IsListCause t X k (Wide letters) → IsListCause t Y k (Wide letters)

-- what a comparison of A with B tells it tells of P with Q
pub record ComparesAlike (t : ℕ) (A B P Q : VectorSet) : Type 0 where
  pub subset : IsSubset t A B ↔ IsSubset t P Q
  pub within : (bound : ℕ) → CostWithin (SamePair t A B) t bound → CostWithin (SamePair t P Q) t bound
  pub above : (bound : ℕ) → CostAbove (SamePair t A B) t bound → CostAbove (SamePair t P Q) t bound
