-- Sums over the items of a loop.
use Rattle.std.proofs.Common.{◌≡◌, ℕ, ◌+◌, ◌<◌, List, [], ◌∷◌, ◌++◌, length, take, get_or, ap, sym, subst, ◌∙◌, arith}
use Rattle.std.specs.Prelude.{sum_by}
use Rattle.std.proofs.lemmas.List.{take_all, length_push}
use Rattle.std.proofs.lemmas.List.Sums.{sum_by_more}

pub next_sum : {A B : Type 0} (f : B → ℕ) (all : List B) (xs : List A) (x : A) (y : B) (sum n new : ℕ) → (length xs < length all) × (y ≡ get_or all (length xs) y) → sum ≡ sum_by f (take (length xs) all) → n ≡ f y → new ≡ sum + n → new ≡ sum_by f (take (length (xs ++ x ∷ [])) all)
next_sum f all xs x y sum n new turn before is add =
    subst (λ (k : ℕ). new ≡ sum_by f (take k all)) (sym (length_push xs x))
    (omega (arith, add, before, is, ap f turn.1, sum_by_more f all (length xs) y turn.0))

pub whole_sum : {A B : Type 0} (f : B → ℕ) (all : List B) (xs : List A) (sum : ℕ) → length xs ≡ length all → sum ≡ sum_by f (take (length xs) all) → sum ≡ sum_by f all
whole_sum f all xs sum same before = before ∙ ap (sum_by f) (take_all (length xs) all (omega arith))
