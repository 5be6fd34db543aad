-- Pairs as keys of a set.
use Rattle.std.proofs.Common.{◌≡◌, ◌≢◌, inr, ℕ, ◌<◌, Bool, true, false, cond, List, [], ◌∷◌, ◌++◌, length, get_or, Some, slice_get, position, eq-eqb, refl, ap, sym, ◌∙◌, arith, length-append}
use Rattle.std.specs.Prelude.{nat_eq, ◌&&◌, ◌||◌}
use Rattle.std.specs.List.{AllByRecursion, list_any}
use Rattle.std.proofs.lemmas.Map.Views.{exact_unsigned_eq}
use Rattle.std.proofs.lemmas.List.{get_or_push}
use Rattle.std.proofs.lemmas.List.Quantifiers.{position-Some}
use Rattle.std.proofs.lemmas.Option.{slice_get-get_or}
use Rattle.pt_sets.specs.Numbering.{Adds}
use Rattle.pt_query.specs.declared.inclusion.Pair.{Pair}

-- what the derived == computes
abbrev pub pair_eq : Pair → Pair → Bool
pair_eq x y = nat_eq x.first y.first && nat_eq x.second y.second

both : (p q : Bool) → (p && q) ≡ true → (p ≡ true) × (q ≡ true)
both true q h = (refl, h)
both false q h = absurd (cc)

exact : (x y : Pair) → pair_eq x y ≡ true → x ≡ y
exact x y h =
    let parts = both _ _ h in
    let with_first : ℕ → Pair = λ n. record { first = n; second = x.second } in
    let with_second : ℕ → Pair = λ n. record { first = y.first; second = n } in
    ap with_first (exact_unsigned_eq x.first y.first parts.0) ∙ ap with_second (exact_unsigned_eq x.second y.second parts.1)

itself : (x : Pair) → pair_eq x x ≡ true
itself x = ap (λ r. r && nat_eq x.second x.second) (eq-eqb x.first x.first refl) ∙ eq-eqb x.second x.second refl

-- a key that is found stands at its place
pub found-at : (p : Pair) (pairs : List Pair) (i : ℕ) → position (pair_eq p) pairs ≡ Some i → slice_get pairs i ≡ Some p
found-at p pairs i h =
    let facts = position-Some (pair_eq p) pairs i p h in
    slice_get-get_or pairs i p facts.0 ∙ ap Some (sym (exact p (get_or pairs i p) facts.1))

-- a key that is not found is none of the keys
pub absent : (p : Pair) (pairs : List Pair) → list_any (pair_eq p) pairs ≡ false → AllByRecursion (λ q. q ≢ p) pairs
absent p [] h = tt
absent p (q ∷ pairs) h = at-head (pair_eq p q) refl h (absent p pairs)
  where
    at-head : (b : Bool) → pair_eq p q ≡ b → (b || list_any (pair_eq p) pairs) ≡ false → (list_any (pair_eq p) pairs ≡ false → AllByRecursion (λ r. r ≢ p) pairs) → AllByRecursion (λ r. r ≢ p) (q ∷ pairs)
    at-head true is h rest = absurd (cc)
    at-head false is h rest = (λ same. (let same_eq = ap (pair_eq p) same ∙ itself p in absurd (cc)), rest h)

-- an insert of an absent key
pub inserted : (p : Pair) (old new : List Pair) → list_any (pair_eq p) old ≡ false → new ≡ cond (list_any (pair_eq p) old) old (old ++ p ∷ []) → Adds p old new
inserted p old new none is = inr (is ∙ ap (λ b. cond b old (old ++ p ∷ [])) none, absent p old none)

pub inserted-at : (p : Pair) (old new : List Pair) (i : ℕ) → length old ≡ i → list_any (pair_eq p) old ≡ false → new ≡ cond (list_any (pair_eq p) old) old (old ++ p ∷ []) → slice_get new i ≡ Some p
inserted-at p old new i count none is =
    let longer : new ≡ old ++ p ∷ [] = is ∙ ap (λ b. cond b old (old ++ p ∷ [])) none in
    let size = ap length longer ∙ length-append old (p ∷ []) in
    let inside : i < length new = omega (arith, size, count) in
    slice_get-get_or new i p inside ∙ ap Some (ap (λ (ps : List Pair). get_or ps i p) longer ∙ get_or_push old p p i count)
