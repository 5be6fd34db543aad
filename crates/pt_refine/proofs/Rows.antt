-- Rows of states.
use Rattle.std.proofs.Common.{◌≡◌, ◌≢◌, ◌⊎◌, inl, inr, ℕ, zero, suc, ◌+◌, ◌<◌, List, [], ◌∷◌, ◌++◌, length, set, get_or, refl, ap, sym, ◌∙◌, subst, arith}
use Rattle.std.specs.Global.{Vec}
use Rattle.std.specs.List.{Contains}
use Rattle.std.proofs.lemmas.Bool.{cases_eq}
use Rattle.std.proofs.lemmas.List.Elements.{Contains-push, Contains-push_cases, Contains-append_left}
use Rattle.pt_refine.specs.Dealing.{row_of, AreRowsOf}

pub row-get : (rows : List (Vec ℕ)) (y : ℕ) (d : Vec ℕ) → y < length rows → row_of rows y ≡ (get_or rows y d).items
row-get [] y d h = absurd (omega arith)
row-get (v ∷ rows) zero d h = refl
row-get (v ∷ rows) (suc y) d h = row-get rows y d (omega arith)

pub row-past : (rows : List (Vec ℕ)) (y : ℕ) → length rows < y + 1 → row_of rows y ≡ []
row-past [] y h = refl
row-past (v ∷ rows) zero h = absurd (omega arith)
row-past (v ∷ rows) (suc y) h = row-past rows y (omega arith)

pub row-set_same : (rows : List (Vec ℕ)) (y : ℕ) (v : Vec ℕ) → y < length rows → row_of (set rows y v) y ≡ v.items
row-set_same [] y v h = absurd (omega arith)
row-set_same (u ∷ rows) zero v h = refl
row-set_same (u ∷ rows) (suc y) v h = row-set_same rows y v (omega arith)

pub row-set_other : (rows : List (Vec ℕ)) (y z : ℕ) (v : Vec ℕ) → z ≢ y → row_of (set rows y v) z ≡ row_of rows z
row-set_other [] y z v apart = refl
row-set_other (u ∷ rows) zero zero v apart = absurd (apart refl)
row-set_other (u ∷ rows) zero (suc z) v apart = refl
row-set_other (u ∷ rows) (suc y) zero v apart = refl
row-set_other (u ∷ rows) (suc y) (suc z) v apart = row-set_other rows y z v (λ same. apart (ap suc same))

pub row-push : (rows : List (Vec ℕ)) (v : Vec ℕ) (y : ℕ) → v.items ≡ [] → ((z : ℕ) → row_of rows z ≡ []) → row_of (rows ++ v ∷ []) y ≡ []
row-push [] v zero none empty = none
row-push [] v (suc y) none empty = refl
row-push (u ∷ rows) v zero none empty = empty 0
row-push (u ∷ rows) v (suc y) none empty = row-push rows v y none (λ z. empty (suc z))

-- an empty row has no states
pub none-in : (rows : List (Vec ℕ)) (y x : ℕ) → row_of rows y ≡ [] → ¬ Contains (row_of rows y) x
none-in rows y x empty inside =
    let at : Contains [] x = subst (λ (xs : List ℕ). Contains xs x) empty inside in
    let lt = at.1 in
    omega arith

-- one more state in a row
module _ (x y : ℕ) (old new : List (Vec ℕ)) (added : row_of new y ≡ row_of old y ++ x ∷ []) (others : (z : ℕ) → z ≢ y → row_of new z ≡ row_of old z) where
  pub row-kept : (z w : ℕ) → Contains (row_of old z) w → Contains (row_of new z) w
  row-kept z w inside = elim (cases_eq z y) [
    | inr ne ↦ subst (λ (xs : List ℕ). Contains xs w) (sym (others z ne)) inside
    | inl e ↦
        let here : Contains (row_of old y) w = subst (λ (i : ℕ). Contains (row_of old i) w) e inside in
        let new_here : Contains (row_of new y) w = subst (λ (xs : List ℕ). Contains xs w) (sym added) (Contains-append_left (row_of old y) (x ∷ []) w here) in
        subst (λ (i : ℕ). Contains (row_of new i) w) (sym e) new_here
  ]

  pub row-here : Contains (row_of new y) x
  row-here = subst (λ (xs : List ℕ). Contains xs x) (sym added) (Contains-push (row_of old y) x)

  pub row-only : (z w : ℕ) → Contains (row_of new z) w → Contains (row_of old z) w ⊎ ((w ≡ x) × (z ≡ y))
  row-only z w inside = elim (cases_eq z y) [
    | inr ne ↦ inl (subst (λ (xs : List ℕ). Contains xs w) (others z ne) inside)
    | inl e ↦
        let here : Contains (row_of new y) w = subst (λ (i : ℕ). Contains (row_of new i) w) e inside in
        elim (Contains-push_cases (row_of old y) x w (subst (λ (xs : List ℕ). Contains xs w) added here)) [
          | inl before ↦ inl (subst (λ (i : ℕ). Contains (row_of old i) w) (sym e) before)
          | inr same ↦ inr (sym same, e)
        ]
  ]

-- one more state in the row of its number
pub rows-none : (numbers : ℕ → ℕ) (rows : List (Vec ℕ)) → ((y : ℕ) → row_of rows y ≡ []) → AreRowsOf 0 numbers rows
rows-none numbers rows empty = record {
  sound = λ q c inside. absurd (none-in rows c q (empty c) inside);
  complete = λ q q_in. absurd (omega arith);
}

pub rows-more : {numbers : ℕ → ℕ} {n : ℕ} {old : List (Vec ℕ)} → AreRowsOf n numbers old → (y : ℕ) (new : List (Vec ℕ)) → numbers n ≡ y →
    row_of new y ≡ row_of old y ++ n ∷ [] → ((z : ℕ) → z ≢ y → row_of new z ≡ row_of old z) → AreRowsOf (n + 1) numbers new
rows-more {numbers} {n} {old} was y new y_is added others = record {
  sound = λ q c inside. elim (row-only n y old new added others c q inside) [
    | inl before ↦ let at = was.sound q c before in let lt = at.0 in (omega arith, at.1)
    | inr here ↦ let q_is = here.0 in (omega arith, ap numbers here.0 ∙ y_is ∙ sym here.1)
  ];
  complete = λ q q_in. elim (cases_eq q n) [
    | inr ne ↦ row-kept n y old new added others (numbers q) q (was.complete q (omega arith))
    | inl e ↦
        let at_y : Contains (row_of new y) q = subst (λ (x : ℕ). Contains (row_of new y) x) (sym e) (row-here n y old new added others) in
        subst (λ (c : ℕ). Contains (row_of new c) q) (sym (ap numbers e ∙ y_is)) at_y
  ];
}
