-- Lists with one item more.
use Rattle.std.proofs.Common.{◌≡◌, ◌⊎◌, inl, inr, ℕ, zero, suc, ◌+◌, Bool, true, false, not, List, [], ◌∷◌, ◌++◌, length, refl, ap, ◌∙◌, arith, position, Some, None, slice_get, length-append}
use Rattle.std.specs.List.{position_or_len}
use Rattle.std.proofs.lemmas.Bool.Decides.{nat_tests}
use Rattle.std.proofs.lemmas.List.{take-append-le}
use Rattle.std.proofs.lemmas.List.Sums.{prefix_len-le-length}
use Rattle.std.proofs.lemmas.List.Folds.{position_or_len_push}
use Rattle.pt_base.proofs.Prefixes.{prefix-length}
use Rattle.pt_shards.specs.Shards.{Begins}

-- an item of the longer list stands in the old one, or is the new one
pub slice_get-push : {X : Type 0} (xs : List X) (x : X) (p : ℕ) (y : X) → slice_get (xs ++ x ∷ []) p ≡ Some y → (slice_get xs p ≡ Some y) ⊎ ((p ≡ length xs) × (y ≡ x))
slice_get-push [] x zero y h = inr (refl, cc)
slice_get-push [] x (suc p) y h = absurd cc
slice_get-push (z ∷ zs) x zero y h = inl h
slice_get-push (z ∷ zs) x (suc p) y h = elim (slice_get-push zs x p y h) [ inl stands ↦ inl stands | inr last ↦ inr (ap suc last.0, last.1) ]

-- a prefix stays one
pub Begins-push : (old new : List (List ℕ)) (code : List ℕ) → Begins old new → Begins old (new ++ code ∷ [])
Begins-push old new code begins = take-append-le (length old) new (code ∷ []) (prefix-length old new begins) ∙ begins

-- a list without such an item has none before its end
position_or_len-none : {X : Type 0} (p : X → Bool) (xs : List X) → position p xs ≡ None → position_or_len p xs ≡ length xs
position_or_len-none p xs none = grind (arith, nat_tests, prefix_len-le-length (λ x. not (p x)) xs)

-- the new item is the first that passes
pub position-push : {X : Type 0} (p : X → Bool) (xs : List X) (y : X) → position p xs ≡ None → p y ≡ true → position p (xs ++ y ∷ []) ≡ Some (length xs)
position-push p xs y none passes =
    let at_end = position_or_len-none p xs none in
    let pushed = position_or_len_push p xs y in
    let longer = length-append xs (y ∷ []) in
    let same : position_or_len p (xs ++ y ∷ []) ≡ length xs = grind (arith, nat_tests, at_end, pushed, passes) in
    grind (arith, nat_tests, same, longer)

-- a new item that fails changes nothing
pub position-push_other : {X : Type 0} (p : X → Bool) (xs : List X) (y : X) → position p xs ≡ None → p y ≡ false → position p (xs ++ y ∷ []) ≡ None
position-push_other p xs y none fails =
    let at_end = position_or_len-none p xs none in
    let pushed = position_or_len_push p xs y in
    let longer = length-append xs (y ∷ []) in
    let same : position_or_len p (xs ++ y ∷ []) ≡ length xs + 1 = grind (arith, nat_tests, at_end, pushed, fails) in
    grind (arith, nat_tests, same, longer)
