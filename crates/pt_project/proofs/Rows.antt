-- Lists of states with an edge to each state.
use Rattle.std.proofs.Common.{◌≡◌, ◌≢◌, ◌⊎◌, inl, inr, ℕ, zero, suc, ◌+◌, ◌<◌, List, [], ◌∷◌, ◌++◌, length, set, get_or, refl, ap, sym, ◌∙◌, subst, arith}
use Rattle.std.specs.Global.{Vec}
use Rattle.std.proofs.lemmas.Bool.{cases_eq, cases_lt}
use Rattle.pt_base.specs.Elements.{ContainsByRecursion}
use Rattle.pt_sets.specs.Automata.{Automaton, next_of}
use Rattle.pt_project.specs.Closing.{row_of, AreSources}
use Rattle.pt_project.proofs.Orders.{in-append-last}

pub row-get : (lists : List (Vec ℕ)) (y : ℕ) (d : Vec ℕ) → y < length lists → row_of lists y ≡ (get_or lists y d).items
row-get [] y d h = absurd (omega arith)
row-get (v ∷ lists) zero d h = refl
row-get (v ∷ lists) (suc y) d h = row-get lists y d (omega arith)

pub row-set_same : (lists : List (Vec ℕ)) (y : ℕ) (v : Vec ℕ) → y < length lists → row_of (set lists y v) y ≡ v.items
row-set_same [] y v h = absurd (omega arith)
row-set_same (u ∷ lists) zero v h = refl
row-set_same (u ∷ lists) (suc y) v h = row-set_same lists y v (omega arith)

pub row-set_other : (lists : List (Vec ℕ)) (y z : ℕ) (v : Vec ℕ) → z ≢ y → row_of (set lists y v) z ≡ row_of lists z
row-set_other [] y z v apart = refl
row-set_other (u ∷ lists) zero zero v apart = absurd (apart refl)
row-set_other (u ∷ lists) zero (suc z) v apart = refl
row-set_other (u ∷ lists) (suc y) zero v apart = refl
row-set_other (u ∷ lists) (suc y) (suc z) v apart = row-set_other lists y z v (λ same. apart (ap suc same))

pub row-push : (lists : List (Vec ℕ)) (v : Vec ℕ) (y : ℕ) → v.items ≡ [] → ((z : ℕ) → row_of lists z ≡ []) → row_of (lists ++ v ∷ []) y ≡ []
row-push [] v zero none empty = none
row-push [] v (suc y) none empty = refl
row-push (u ∷ lists) v zero none empty = empty 0
row-push (u ∷ lists) v (suc y) none empty = row-push lists v y none (λ z. empty (suc z))

pub no-items : (xs : List ℕ) → length xs ≡ 0 → xs ≡ []
no-items [] h = refl
no-items (x ∷ xs) h = absurd (omega arith)

pub in-append-left : (x : ℕ) (xs ys : List ℕ) → ContainsByRecursion x xs → ContainsByRecursion x (xs ++ ys)
in-append-left x [] ys inside = elim inside [ ]
in-append-left x (z ∷ xs) ys (inl same) = inl same
in-append-left x (z ∷ xs) ys (inr later) = inr (in-append-left x xs ys later)

pub in-append-end : (x : ℕ) (xs : List ℕ) → ContainsByRecursion x (xs ++ x ∷ [])
in-append-end x [] = inl refl
in-append-end x (z ∷ xs) = inr (in-append-end x xs)

-- one more edge
module _ (x y : ℕ) (old new : List (Vec ℕ)) (added : row_of new y ≡ row_of old y ++ x ∷ []) (others : (z : ℕ) → z ≢ y → row_of new z ≡ row_of old z) where
  pub edge-kept : (z w : ℕ) → ContainsByRecursion w (row_of old z) → ContainsByRecursion w (row_of new z)
  edge-kept z w inside =
      elim (cases_eq z y) [
        | inl same ↦ subst (λ (i : ℕ). ContainsByRecursion w (row_of new i)) (sym same) (subst (ContainsByRecursion w) (sym added) (in-append-left w (row_of old y) (x ∷ []) (subst (λ (i : ℕ). ContainsByRecursion w (row_of old i)) same inside)))
        | inr apart ↦ subst (ContainsByRecursion w) (sym (others z apart)) inside
      ]

  pub edge-added : ContainsByRecursion x (row_of new y)
  edge-added = subst (ContainsByRecursion x) (sym added) (in-append-end x (row_of old y))

  pub edge-only : (z w : ℕ) → ContainsByRecursion w (row_of new z) → ContainsByRecursion w (row_of old z) ⊎ ((w ≡ x) × (y ≡ z))
  edge-only z w inside =
      elim (cases_eq z y) [
        | inl same ↦ elim (in-append-last w x (row_of old y) (subst (ContainsByRecursion w) added (subst (λ (i : ℕ). ContainsByRecursion w (row_of new i)) same inside))) [
          | inl before ↦ inl (subst (λ (i : ℕ). ContainsByRecursion w (row_of old i)) (sym same) before)
          | inr last ↦ inr (last, sym same)
        ]
        | inr apart ↦ inl (subst (ContainsByRecursion w) (others z apart) inside)
      ]

-- no edges yet
pub sources-none : (a : Automaton) (l m : ℕ) (lists : List (Vec ℕ)) → ((y : ℕ) → row_of lists y ≡ []) → AreSources a l m 0 lists
sources-none a l m lists empty = record {
  sound = λ y x inside. (let none : ContainsByRecursion x [] = subst (ContainsByRecursion x) (empty y) inside in elim none [ ]);
  complete = λ x h. absurd (omega arith);
}

-- the edges of one more state
pub sources-more : (a : Automaton) (l m n y z : ℕ) (old mid new : List (Vec ℕ)) → y ≡ next_of a n l → z ≡ next_of a n m → AreSources a l m n old →
    row_of mid y ≡ row_of old y ++ n ∷ [] → ((i : ℕ) → i ≢ y → row_of mid i ≡ row_of old i) → row_of new z ≡ row_of mid z ++ n ∷ [] → ((i : ℕ) → i ≢ z → row_of new i ≡ row_of mid i) → AreSources a l m (n + 1) new
sources-more a l m n y z old mid new y_is z_is are added others added_too others_too = record {
  sound = λ i w inside.
      elim (edge-only n z mid new added_too others_too i w inside) [
        | inl first ↦ elim (edge-only n y old mid added others i w first) [
          | inl before ↦ let (below, edge) = are.sound i w before in (omega arith, edge)
          | inr (same, at) ↦ (omega arith, inl (ap (λ (q : ℕ). next_of a q l) same ∙ sym y_is ∙ at))
        ]
        | inr (same, at) ↦ (omega arith, inr (ap (λ (q : ℕ). next_of a q m) same ∙ sym z_is ∙ at))
      ];
  complete = λ w below.
      elim (cases_lt w n) [
        | inl earlier ↦
            let edges = are.complete w earlier in (
              edge-kept n z mid new added_too others_too (next_of a w l) w (edge-kept n y old mid added others (next_of a w l) w edges.0),
              edge-kept n z mid new added_too others_too (next_of a w m) w (edge-kept n y old mid added others (next_of a w m) w edges.1),
            )
        | inr last ↦ let same : w ≡ n = omega arith in at-last w same
      ];
}
  where
    at-last : (w : ℕ) → w ≡ n → ContainsByRecursion w (row_of new (next_of a w l)) × ContainsByRecursion w (row_of new (next_of a w m))
    at-last w same = (
      subst (λ (q : ℕ). ContainsByRecursion q (row_of new (next_of a q l))) (sym same)
          (subst (λ (i : ℕ). ContainsByRecursion n (row_of new i)) y_is (edge-kept n z mid new added_too others_too y n (edge-added n y old mid added others))),
      subst (λ (q : ℕ). ContainsByRecursion q (row_of new (next_of a q m))) (sym same)
          (subst (λ (i : ℕ). ContainsByRecursion n (row_of new i)) z_is (edge-added n z mid new added_too others_too)),
    )
