-- Queries of sets with the same vectors tell the same.
use Rattle.std.proofs.Common.{ℕ, inl, inr, List, [], ◌∷◌}
use Rattle.pt_base.specs.Elements.{AnyByRecursion}
use Rattle.pt_sets.specs.Sets.{VectorSet, SameSet, residual_by}
use Rattle.pt_sets.specs.Costs.{CostWithin, SameResidual, SamePair}
use Rattle.pt_sets.proofs.Counting.{SameSet-sym, SameSet-trans, above-moved, is-moved}
use Rattle.pt_query.specs.declared.fault.WitnessFault.TheVariants.{Wide}
use Rattle.pt_query.specs.Laws.{TellsAlike, ComparesAlike}
use Rattle.pt_query.proofs.Residuals.{residual-same}
use Rattle.pt_query.proofs.Bounds.{bounded-same}
use Rattle.pt_query.proofs.Causes.{least-moved, first-moved, list-moved}

-- the residuals by two words are equal in both sets or in neither
residuals-alike : (t : ℕ) (X Y : VectorSet) → SameSet t X Y → (v w : List ℕ) → SameResidual t X v w → SameResidual t Y v w
residuals-alike t X Y same v w h =
    SameSet-trans t (residual_by Y v) (residual_by X v) (residual_by Y w) (residual-same t Y X v (SameSet-sym t X Y same))
    (SameSet-trans t (residual_by X v) (residual_by X w) (residual_by Y w) h (residual-same t X Y w same))

pub tells-alike : (t : ℕ) (X Y : VectorSet) → SameSet t X Y → TellsAlike t X Y
tells-alike t X Y same =
    let back = SameSet-sym t X Y same in
    record {
      empty = (λ none z len in_Y. none z len ((same.agrees z len).1 in_Y), λ none z len in_X. none z len ((same.agrees z len).0 in_X));
      bounded = (bounded-same t X Y same, bounded-same t Y X back);
      residuals = is-moved (SameResidual t X) (SameResidual t Y) t (λ v w _ _. (residuals-alike t X Y same v w, residuals-alike t Y X back v w));
      least = least-moved t X Y same;
      first = λ k zs. first-moved t k X Y same zs;
      list_cause = λ k letters. list-moved t k X Y same (Wide letters);
    }

-- a coarser relation has no greater cost
any-alike : (P Q : List ℕ → Type 0) → ((w : List ℕ) → P w → Q w) → (ws : List (List ℕ)) → AnyByRecursion P ws → AnyByRecursion Q ws
any-alike P Q into [] any = absurd any
any-alike P Q into (w ∷ ws) (inl here) = inl (into w here)
any-alike P Q into (w ∷ ws) (inr there) = inr (any-alike P Q into ws there)

within-alike : (one two : List ℕ → List ℕ → Type 0) (t B : ℕ) → ((v w : List ℕ) → one v w → two v w) → CostWithin one t B → CostWithin two t B
within-alike one two t B into within = record {
  lists = within.lists;
  count = within.count;
  letters = within.letters;
  all = λ w letters. any-alike (one w) (two w) (into w) within.lists (within.all w letters);
}

module _ (t : ℕ) (A B P Q : VectorSet) where
  pairs-alike : SameSet t A P → SameSet t B Q → (v w : List ℕ) → SamePair t A B v w → SamePair t P Q v w
  pairs-alike first second v w h = (residuals-alike t A P first v w h.0, residuals-alike t B Q second v w h.1)

module _ (t : ℕ) (A B P Q : VectorSet) (first : SameSet t A P) (second : SameSet t B Q) where
  pub compares-alike : ComparesAlike t A B P Q
  compares-alike = record {
    subset = (
      λ included z len in_P. (second.agrees z len).0 (included z len ((first.agrees z len).1 in_P)),
      λ included z len in_A. (second.agrees z len).1 (included z len ((first.agrees z len).0 in_A)),
    );
    within = λ bound. within-alike (SamePair t A B) (SamePair t P Q) t bound (pairs-alike t A B P Q first second);
    above = above-moved (SamePair t A B) (SamePair t P Q) t (λ v w _ _. pairs-alike t P Q A B (SameSet-sym t A P first) (SameSet-sym t B Q second) v w);
  }
