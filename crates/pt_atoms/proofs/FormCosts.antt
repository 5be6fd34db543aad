-- The number of forms that are reached is the number of residuals.
use Rattle.std.proofs.Common.{ℕ, inl, inr, List, [], ◌∷◌}
use Rattle.std.specs.List.{AllByRecursion}
use Rattle.pt_base.specs.Elements.{AnyByRecursion, PairsByRecursion}
use Rattle.pt_sets.specs.Costs.{CostAbove, CostWithin, CostIs}

-- Two relations that imply one another on lists of letters give one cost.
all_by : {X : Type 0} (P Q : X → Type 0) (xs : List X) → ((x : X) → P x → Q x) → AllByRecursion P xs → AllByRecursion Q xs
all_by P Q [] f h = tt
all_by P Q (x ∷ xs) f h = (f x h.0, all_by P Q xs f h.1)

any_by : {X : Type 0} (P Q : X → Type 0) (xs : List X) → ((x : X) → P x → Q x) → AnyByRecursion P xs → AnyByRecursion Q xs
any_by P Q [] f h = h
any_by P Q (x ∷ xs) f (inl h) = inl (f x h)
any_by P Q (x ∷ xs) f (inr h) = inr (any_by P Q xs f h)

pairs_by : {X : Type 0} (R S : X → X → Type 0) (xs : List X) → ((x y : X) → R x y → S x y) → PairsByRecursion R xs → PairsByRecursion S xs
pairs_by R S [] f h = h
pairs_by R S (x ∷ xs) f h = (all_by (R x) (S x) xs (f x) h.0, pairs_by R S xs f h.1)

pub cost_above_by : (R S : List ℕ → List ℕ → Type 0) (t B : ℕ) → ((v w : List ℕ) → S v w → R v w) → CostAbove R t B → CostAbove S t B
cost_above_by R S t B f h = record { lists = h.lists; count = h.count; letters = h.letters; different = pairs_by _ _ h.lists (λ v w g s. g (f v w s)) h.different }

pub cost_within_by : (R S : List ℕ → List ℕ → Type 0) (t B : ℕ) → ((v w : List ℕ) → R v w → S v w) → CostWithin R t B → CostWithin S t B
cost_within_by R S t B f h = record { lists = h.lists; count = h.count; letters = h.letters; all = λ w l. any_by (R w) (S w) h.lists (f w) (h.all w l) }

pub cost_is_by : (R S : List ℕ → List ℕ → Type 0) (t B : ℕ) → ((v w : List ℕ) → R v w → S v w) → ((v w : List ℕ) → S v w → R v w) → CostIs R t B → CostIs S t B
cost_is_by R S t B f g h = record {
  lists = h.lists;
  count = h.count;
  letters = h.letters;
  different = pairs_by _ _ h.lists (λ v w apart s. apart (g v w s)) h.different;
  all = λ w l. any_by (R w) (S w) h.lists (f w) (h.all w l);
}
