-- Unions of increasing lists, as a merge makes them.
use Rattle.std.proofs.Common.{◌≡◌, ◌⊎◌, inl, inr, ℕ, suc, ◌+◌, ◌<◌, ◌≤◌, true, false, nat_lt, ◌==◌, zero, if◌then◌else◌, List, [], ◌∷◌, ◌++◌, length, get_or, take, drop, length-drop, ◌-◌, drop-cons, append_assoc, add-one, refl, ap, sym, subst, ◌∙◌, arith}
use Rattle.std.proofs.lemmas.Bool.Decides.{nat_tests}
use Rattle.std.specs.List.{AllByRecursion}
use Rattle.pt_formula.specs.Forms.{IsIncreasing}
use Rattle.pt_formula.specs.Truth.{insert_var, union}

-- what all elements have, whatever is less has of them
pub above_less : (v u : ℕ) (ws : List ℕ) → v < u → AllByRecursion (λ w. u < w) ws → AllByRecursion (λ w. v < w) ws
above_less v u [] lt h = tt
above_less v u (w ∷ ws) lt h = (omega (arith, h.0), above_less v u ws lt h.1)

insert_front : (v : ℕ) (xs : List ℕ) → AllByRecursion (λ u. v < u) xs → insert_var v xs ≡ v ∷ xs
insert_front v [] h = refl
insert_front v (x ∷ xs) h =
    let lt : v < x = h.0 in
    let test : nat_lt v x ≡ true = grind (arith, nat_tests) in
    ap (λ b. if b then v ∷ x ∷ xs else if v == x then x ∷ xs else x ∷ insert_var v xs) test

insert_past : (v u : ℕ) (xs : List ℕ) → u < v → insert_var v (u ∷ xs) ≡ u ∷ insert_var v xs
insert_past v u xs lt =
    let test : nat_lt v u ≡ false = grind (arith, nat_tests) in
    let same : (v == u) ≡ false = grind (arith, nat_tests) in
    ap (λ b. if b then v ∷ u ∷ xs else if v == u then u ∷ xs else u ∷ insert_var v xs) test
    ∙ ap (λ b. if b then u ∷ xs else u ∷ insert_var v xs) same

insert_same : (v : ℕ) (xs : List ℕ) → insert_var v (v ∷ xs) ≡ v ∷ xs
insert_same v xs =
    let test : nat_lt v v ≡ false = grind (arith, nat_tests) in
    let same : (v == v) ≡ true = grind (arith, nat_tests) in
    ap (λ b. if b then v ∷ v ∷ xs else if v == v then v ∷ xs else v ∷ insert_var v xs) test
    ∙ ap (λ b. if b then v ∷ xs else v ∷ insert_var v xs) same

pub all_insert : (P : ℕ → Type 0) (v : ℕ) (xs : List ℕ) → P v → AllByRecursion P xs → AllByRecursion P (insert_var v xs)
all_insert P v [] p h = (p, tt)
all_insert P v (x ∷ xs) p h =
    elim (nat_lt v x) as (λ b. AllByRecursion P (if b then v ∷ x ∷ xs else if v == x then x ∷ xs else x ∷ insert_var v xs)) [
      | true ↦ (p, (h.0, h.1))
      | false ↦ elim (v == x) as (λ b. AllByRecursion P (if b then x ∷ xs else x ∷ insert_var v xs)) [
        | true ↦ (h.0, h.1)
        | false ↦ (h.0, all_insert P v xs p h.1)
      ]
    ]

pub all_union : (P : ℕ → Type 0) (vs us : List ℕ) → AllByRecursion P vs → AllByRecursion P us → AllByRecursion P (union vs us)
all_union P [] us h k = k
all_union P (v ∷ vs) us h k = all_insert P v (union vs us) h.0 (all_union P vs us h.1 k)

union_past : (u : ℕ) (ws us : List ℕ) → AllByRecursion (λ w. u < w) ws → union ws (u ∷ us) ≡ u ∷ union ws us
union_past u [] us h = refl
union_past u (w ∷ ws) us h = ap (insert_var w) (union_past u ws us h.1) ∙ insert_past w u (union ws us) h.0

union_less : (v u : ℕ) (vs us : List ℕ) → v < u → IsIncreasing (v ∷ vs) → IsIncreasing (u ∷ us) → union (v ∷ vs) (u ∷ us) ≡ v ∷ union vs (u ∷ us)
union_less v u vs us lt h k =
    insert_front v (union vs (u ∷ us)) (all_union (λ w. v < w) vs (u ∷ us) h.0 (lt, above_less v u us lt k.0))

union_same : (v : ℕ) (vs us : List ℕ) → IsIncreasing (v ∷ vs) → union (v ∷ vs) (v ∷ us) ≡ v ∷ union vs us
union_same v vs us h = ap (insert_var v) (union_past v vs us h.0) ∙ insert_same v (union vs us)

union_more : (v u : ℕ) (vs us : List ℕ) → u < v → IsIncreasing (v ∷ vs) → union (v ∷ vs) (u ∷ us) ≡ u ∷ union (v ∷ vs) us
union_more v u vs us lt h = union_past u (v ∷ vs) us (lt, above_less u v vs lt h.0)

pub union_none : (vs : List ℕ) → IsIncreasing vs → union vs [] ≡ vs
union_none [] h = refl
union_none (v ∷ vs) h = ap (insert_var v) (union_none vs h.1) ∙ insert_front v vs h.0

-- a merge has made the items, and what is left from places i and j on goes behind them
pub record Merging (a b items : List ℕ) (i j : ℕ) : Type 0 where
  pub left : i ≤ length a
  pub right : j ≤ length b
  pub first : IsIncreasing (drop i a)
  pub second : IsIncreasing (drop j b)
  pub rest : items ++ union (drop i a) (drop j b) ≡ union a b

-- one turn, with the heads v and u
turn : (items vs us all : List ℕ) (v u : ℕ) → IsIncreasing (v ∷ vs) → IsIncreasing (u ∷ us) → items ++ union (v ∷ vs) (u ∷ us) ≡ all → (v < u → (items ++ v ∷ []) ++ union vs (u ∷ us) ≡ all) × (v ≡ u → (items ++ v ∷ []) ++ union vs us ≡ all) × (u < v → (items ++ u ∷ []) ++ union (v ∷ vs) us ≡ all)
turn items vs us all v u h k e = (
  λ lt. append_assoc items (v ∷ []) (union vs (u ∷ us)) ∙ ap (λ s. items ++ s) (sym (union_less v u vs us lt h k)) ∙ e,
  λ same. append_assoc items (v ∷ []) (union vs us) ∙ ap (λ s. items ++ s) (sym (union_same v vs us h)) ∙ ap (λ w. items ++ union (v ∷ vs) (w ∷ us)) same ∙ e,
  λ lt. append_assoc items (u ∷ []) (union (v ∷ vs) us) ∙ ap (λ s. items ++ s) (sym (union_more v u vs us lt h)) ∙ e,
)

pub merge_less : (a b items : List ℕ) (i j : ℕ) → i < length a → j < length b → get_or a i 0 < get_or b j 0 → Merging a b items i j → Merging a b (items ++ get_or a i 0 ∷ []) (i + 1) j
merge_less a b items i j p q lt m =
    let da : drop i a ≡ get_or a i 0 ∷ drop (suc i) a = drop-cons a i 0 p in
    let db : drop j b ≡ get_or b j 0 ∷ drop (suc j) b = drop-cons b j 0 q in
    let h : IsIncreasing (get_or a i 0 ∷ drop (suc i) a) = subst IsIncreasing da m.first in
    let k : IsIncreasing (get_or b j 0 ∷ drop (suc j) b) = subst IsIncreasing db m.second in
    let e : items ++ union (get_or a i 0 ∷ drop (suc i) a) (get_or b j 0 ∷ drop (suc j) b) ≡ union a b = ap (λ s. items ++ union s (get_or b j 0 ∷ drop (suc j) b)) (sym da) ∙ ap (λ s. items ++ union (drop i a) s) (sym db) ∙ m.rest in
    let t = turn items (drop (suc i) a) (drop (suc j) b) (union a b) (get_or a i 0) (get_or b j 0) h k e in
    rw add-one (record {
      left = omega arith;
      right = m.right;
      first = h.1;
      second = m.second;
      rest = ap (λ s. (items ++ get_or a i 0 ∷ []) ++ union (drop (suc i) a) s) db ∙ t.0 lt;
    })

pub merge_same : (a b items : List ℕ) (i j : ℕ) → i < length a → j < length b → get_or a i 0 ≡ get_or b j 0 → Merging a b items i j → Merging a b (items ++ get_or a i 0 ∷ []) (i + 1) (j + 1)
merge_same a b items i j p q same m =
    let da : drop i a ≡ get_or a i 0 ∷ drop (suc i) a = drop-cons a i 0 p in
    let db : drop j b ≡ get_or b j 0 ∷ drop (suc j) b = drop-cons b j 0 q in
    let h : IsIncreasing (get_or a i 0 ∷ drop (suc i) a) = subst IsIncreasing da m.first in
    let k : IsIncreasing (get_or b j 0 ∷ drop (suc j) b) = subst IsIncreasing db m.second in
    let e : items ++ union (get_or a i 0 ∷ drop (suc i) a) (get_or b j 0 ∷ drop (suc j) b) ≡ union a b = ap (λ s. items ++ union s (get_or b j 0 ∷ drop (suc j) b)) (sym da) ∙ ap (λ s. items ++ union (drop i a) s) (sym db) ∙ m.rest in
    let t = turn items (drop (suc i) a) (drop (suc j) b) (union a b) (get_or a i 0) (get_or b j 0) h k e in
    rw add-one (rw add-one (record {
      left = omega arith;
      right = omega arith;
      first = h.1;
      second = k.1;
      rest = t.1 same;
    }))

pub merge_more : (a b items : List ℕ) (i j : ℕ) → i < length a → j < length b → get_or b j 0 < get_or a i 0 → Merging a b items i j → Merging a b (items ++ get_or b j 0 ∷ []) i (j + 1)
merge_more a b items i j p q lt m =
    let da : drop i a ≡ get_or a i 0 ∷ drop (suc i) a = drop-cons a i 0 p in
    let db : drop j b ≡ get_or b j 0 ∷ drop (suc j) b = drop-cons b j 0 q in
    let h : IsIncreasing (get_or a i 0 ∷ drop (suc i) a) = subst IsIncreasing da m.first in
    let k : IsIncreasing (get_or b j 0 ∷ drop (suc j) b) = subst IsIncreasing db m.second in
    let e : items ++ union (get_or a i 0 ∷ drop (suc i) a) (get_or b j 0 ∷ drop (suc j) b) ≡ union a b = ap (λ s. items ++ union s (get_or b j 0 ∷ drop (suc j) b)) (sym da) ∙ ap (λ s. items ++ union (drop i a) s) (sym db) ∙ m.rest in
    let t = turn items (drop (suc i) a) (drop (suc j) b) (union a b) (get_or a i 0) (get_or b j 0) h k e in
    rw add-one (record {
      left = m.left;
      right = omega arith;
      first = m.first;
      second = k.1;
      rest = ap (λ s. (items ++ get_or b j 0 ∷ []) ++ union s (drop (suc j) b)) da ∙ t.2 lt;
    })

drop_past : (xs : List ℕ) (i : ℕ) → length xs ≤ i → drop i xs ≡ []
drop_past [] i h = elim i as (λ i. drop i (let none : List ℕ = [] in none) ≡ []) [ zero ↦ refl | suc i ↦ refl ]
drop_past (x ∷ xs) zero h = absurd (omega (arith, h))
drop_past (x ∷ xs) (suc i) h = drop_past xs i (omega (arith, h))

take_all : (xs : List ℕ) (n : ℕ) → n ≡ length xs → take n xs ≡ xs
take_all [] zero e = refl
take_all [] (suc n) e = absurd (omega (arith, e))
take_all (x ∷ xs) zero e = absurd (omega (arith, e))
take_all (x ∷ xs) (suc n) e = ap (λ s. x ∷ s) (take_all xs n (omega (arith, e)))

-- all that is left from a place on
pub take_rest : (xs : List ℕ) (i : ℕ) → take (length xs - i) (drop i xs) ≡ drop i xs
take_rest xs i = take_all (drop i xs) (length xs - i) (sym (length-drop i xs))

-- at the end of one list, the rest of the other goes behind the items
pub merge_end : (a b items : List ℕ) (i j : ℕ) → (length a ≤ i) ⊎ (length b ≤ j) → Merging a b items i j → (items ++ drop i a) ++ drop j b ≡ union a b
merge_end a b items i j ends m =
    append_assoc items (drop i a) (drop j b) ∙ ap (λ s. items ++ s) (joined ends) ∙ m.rest
  where
    joined : (length a ≤ i) ⊎ (length b ≤ j) → drop i a ++ drop j b ≡ union (drop i a) (drop j b)
    joined (inl h) = let e = drop_past a i h in ap (λ s. s ++ drop j b) e ∙ ap (λ s. union s (drop j b)) (sym e)
    joined (inr h) =
        let e = drop_past b j h in
        ap (λ s. drop i a ++ s) e ∙ append_none (drop i a) ∙ sym (union_none (drop i a) m.first) ∙ ap (union (drop i a)) (sym e)
      where
        append_none : (xs : List ℕ) → xs ++ [] ≡ xs
        append_none [] = refl
        append_none (x ∷ xs) = ap (λ s. x ∷ s) (append_none xs)
