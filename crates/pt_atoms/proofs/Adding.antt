-- What an index of different items does with one that is put in.
use Rattle.std.proofs.Common.{ℕ, zero, suc, ◌<◌, ◌≤◌, ◌≡◌, ◌⊎◌, inl, inr, Bool, true, false, ◌||◌, cond, Decides, List, [], ◌∷◌, ◌++◌, length, slice_get, Some, refl, ap, sym, ◌∙◌, arith}
use Rattle.std.proofs.lemmas.Bool.{false≢true}
use Rattle.std.proofs.lemmas.List.{length-append}
use Rattle.std.proofs.lemmas.Option.{slice_get_within}
use Rattle.std.specs.List.{list_any}
use Rattle.indexmap.specs.IndexSet.{insert_key}
use Rattle.pt_atoms.specs.Searches.{HasNot, IsAdded}

-- a place of a longer list
pub get_push : {X : Type 0} (xs : List X) (y : X) (q : ℕ) (x : X) → slice_get (xs ++ y ∷ []) q ≡ Some x → (slice_get xs q ≡ Some x) ⊎ ((q ≡ length xs) × (y ≡ x))
get_push [] y zero x e = inr (refl, some_is y x e)
  where
    some_is : {X : Type 0} (y x : X) → Some y ≡ Some x → y ≡ x
    some_is y x e = cc
get_push [] y (suc q) x e = absurd (grind (arith, e))
get_push (z ∷ xs) y zero x e = inl e
get_push (z ∷ xs) y (suc q) x e = elim (get_push xs y q x e) [ inl p ↦ inl p | inr p ↦ inr (ap suc p.0, p.1) ]

-- an item that the list has not stands nowhere
stands_nowhere : {X : Type 0} (x : X) (xs : List X) (q : ℕ) → HasNot x xs → slice_get xs q ≡ Some x → ⊥
stands_nowhere x [] q h e = absurd (grind (arith, e))
stands_nowhere x (y ∷ xs) zero h e = h.0 (some_is y x e)
  where
    some_is : {X : Type 0} (y x : X) → Some y ≡ Some x → y ≡ x
    some_is y x e = cc
stands_nowhere x (y ∷ xs) (suc q) h e = stands_nowhere x xs q h.1 e

module _ {X : Type 0} (eq : X → X → Bool) (decides : (x y : X) → Decides (eq x y) (x ≡ y)) where
  has_not : (x : X) (xs : List X) → list_any (eq x) xs ≡ false → HasNot x xs
  has_not x [] h = tt
  has_not x (y ∷ xs) h = by (eq x y) refl (has_not x xs)
    where
      by : (b : Bool) → eq x y ≡ b → (list_any (eq x) xs ≡ false → HasNot x xs) → HasNot x (y ∷ xs)
      by true e more = absurd (false≢true (sym h ∙ ap (λ b. b || list_any (eq x) xs) e))
      by false e more = (
        λ same. false≢true (sym e ∙ (decides x y).1 (sym same)),
        more (ap (λ b. b || list_any (eq x) xs) (sym e) ∙ h),
      )

  -- it stands at its place, at the end where it is new
  pub inserted : (old new : List X) (x k : X) (i : ℕ) → new ≡ insert_key eq old x → slice_get new i ≡ Some k → eq x k ≡ true → IsAdded x old new i
  inserted old new x k i e at same = (at ∙ sym (ap Some ((decides x k).0 same)), by (list_any (eq x) old) refl)
    where
      by : (b : Bool) → list_any (eq x) old ≡ b → (new ≡ old) ⊎ ((new ≡ old ++ x ∷ []) × HasNot x old)
      by true f = inl (e ∙ ap (λ b. cond b old (old ++ x ∷ [])) f)
      by false f = inr (e ∙ ap (λ b. cond b old (old ++ x ∷ [])) f, has_not x old f)

-- a place from the bound on: the list was full and had it not
pub place_past : {X : Type 0} (x : X) (old new : List X) (i B : ℕ) → IsAdded x old new i → length old ≤ B → B ≤ i → (length old ≡ B) × HasNot x old
place_past x old new i B (at, inl e) room past =
    let inside = slice_get_within new i x at in
    let same = ap length e in
    absurd (omega (arith, inside, same, room, past))
place_past x old new i B (at, inr (e, h)) room past =
    let inside = slice_get_within new i x at in
    let more = ap length e ∙ length-append old (x ∷ []) in
    (omega (arith, inside, more, room, past), h)

-- a place below the bound: the list is in the bound
pub place_below : {X : Type 0} (x : X) (old new : List X) (i B : ℕ) → IsAdded x old new i → length old ≤ B → i < B → length new ≤ B
place_below x old new i B (at, inl e) room below = let same = ap length e in omega (arith, same, room)
place_below x old new i B (at, inr (e, h)) room below =
    let more = ap length e ∙ length-append old (x ∷ []) in
    elim (get_push old x i x (sym (ap (λ xs. slice_get xs i) e) ∙ at)) [
      | inl p ↦ absurd (stands_nowhere x old i h p)
      | inr p ↦ let last = p.0 in omega (arith, more, last, below)
    ]
