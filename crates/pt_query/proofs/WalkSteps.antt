-- Steps of a breadth-first search.
use Rattle.std.proofs.Common.{◌≡◌, ◌≢◌, ◌⊎◌, inl, inr, ℕ, suc, ◌+◌, ◌^◌, ◌<◌, ◌≤◌, List, [], ◌∷◌, ◌++◌, length, set, Option, None, Some, refl, ap, sym, ◌∙◌, subst, arith, length-append, get_or-set_other, get_or-set_same}
use Rattle.std.specs.Prelude.{slice_index, slice_index_or}
use Rattle.std.proofs.lemmas.Bool.{cases_eq, cases_lt}
use Rattle.std.proofs.lemmas.List.{length-set, get_or_append_left, get_or_push}
use Rattle.pt_sets.specs.Words.{IsLetter}
use Rattle.pt_sets.specs.Automata.{Automaton, IsAutomaton, next_of}
use Rattle.pt_base.proofs.Pigeonhole.{injective-le}
use Rattle.pt_query.specs.Walks.{Before, IsWalk}

-- no more states are met than there are
pub walk-short : (a : Automaton) (start : ℕ) (order parents letters : List ℕ) (places : List (Option ℕ)) (i l : ℕ) → IsWalk a start order parents letters places i l → length order ≤ a.states
walk-short a start order parents letters places i l w =
    injective-le (length order) a.states (slice_index order) w.within
    (λ j k h_j h_k e.
    let at_j = w.placed j h_j in
    let at_k = w.placed k h_k in
    let same : slice_index_or places (slice_index order j) None ≡ slice_index_or places (slice_index order k) None = ap (λ (q : ℕ). slice_index_or places q None) e in
    cc)

later : (p m i l : ℕ) → Before p m i l → Before p m i (l + 1)
later p m i l (inl h) = inl h
later p m i l (inr h) = inr (h.0, omega (arith, h.1))

-- what is done before i and l + 1 was done before, or is i and l
last-done : (p m i l : ℕ) → Before p m i (l + 1) → Before p m i l ⊎ ((p ≡ i) × (m ≡ l))
last-done p m i l (inl h) = inl (inl h)
last-done p m i l (inr h) = elim (cases_eq m l) [ inl same ↦ inr (h.0, same) | inr other ↦ inl (inr (h.0, omega (arith, h.1, other))) ]

-- a letter that leads to a state that was met
pub walk-again : (a : Automaton) (start : ℕ) (order parents letters : List ℕ) (places : List (Option ℕ)) (i l j : ℕ) → IsWalk a start order parents letters places i l →
    slice_index_or places (next_of a (slice_index order i) l) None ≡ Some j → IsWalk a start order parents letters places i (l + 1)
walk-again a start order parents letters places i l j w met = record {
  parent_count = w.parent_count;
  letter_count = w.letter_count;
  place_count = w.place_count;
  some = w.some;
  first = w.first;
  within = w.within;
  found = w.found;
  placed = w.placed;
  earlier = w.earlier;
  letter = w.letter;
  edge = w.edge;
  past = λ k some inside. later (slice_index parents k) (slice_index letters k) i l (w.past k some inside);
  increasing = w.increasing;
  done = λ p m inside is_letter before.
      elim (last-done p m i l before) [
        | inl earlier ↦ w.done p m inside is_letter earlier
        | inr here ↦
            let at = w.found (next_of a (slice_index order i) l) j met in
            (j, at.0, at.1 ∙ ap (λ (x : ℕ). next_of a (slice_index order x) l) (sym here.0) ∙ ap (next_of a (slice_index order p)) (sym here.1), λ some. at-last j p m here (w.past j some at.0))
      ];
}
  where
    at-last : (k p m : ℕ) → (p ≡ i) × (m ≡ l) → Before (slice_index parents k) (slice_index letters k) i l → Before (slice_index parents k) (slice_index letters k) p (suc m)
    at-last k p m here (inl h) = inl (omega (arith, h, here.0))
    at-last k p m here (inr h) = inr (h.0 ∙ sym here.0, omega (arith, h.1, here.1))

-- a letter that leads to another state
module _ (a : Automaton) (start : ℕ) (order parents letters : List ℕ) (places : List (Option ℕ)) (i l : ℕ) (w : IsWalk a start order parents letters places i l) (valid : IsAutomaton a) (inside_i : i < length order) (is_l : IsLetter a.tracks l) where
  module _ (unmet : slice_index_or places (next_of a (slice_index order i) l) None ≡ None) where
    abbrev order' : List ℕ
    order' = order ++ next_of a (slice_index order i) l ∷ []

    abbrev parents' : List ℕ
    parents' = parents ++ i ∷ []

    abbrev letters' : List ℕ
    letters' = letters ++ l ∷ []

    abbrev places' : List (Option ℕ)
    places' = set places (next_of a (slice_index order i) l) (Some (length order))

    longer : length order' ≡ length order + 1
    longer = length-append order (next_of a (slice_index order i) l ∷ [])

    order-old : (j : ℕ) → j < length order → slice_index order' j ≡ slice_index order j
    order-old j h = get_or_append_left order (next_of a (slice_index order i) l ∷ []) 0 j h

    order-new : slice_index order' (length order) ≡ next_of a (slice_index order i) l
    order-new = get_or_push order (next_of a (slice_index order i) l) 0 (length order) refl

    parent-old : (j : ℕ) → j < length order → slice_index parents' j ≡ slice_index parents j
    parent-old j h = get_or_append_left parents (i ∷ []) 0 j (omega (arith, w.parent_count))

    parent-new : slice_index parents' (length order) ≡ i
    parent-new = get_or_push parents i 0 (length order) w.parent_count

    letter-old : (j : ℕ) → j < length order → slice_index letters' j ≡ slice_index letters j
    letter-old j h = get_or_append_left letters (l ∷ []) 0 j (omega (arith, w.letter_count))

    letter-new : slice_index letters' (length order) ≡ l
    letter-new = get_or_push letters l 0 (length order) w.letter_count

    next-within : next_of a (slice_index order i) l < a.states
    next-within = valid.closed (slice_index order i) l (w.within i inside_i) is_l

    old-or-new : (j : ℕ) → j < length order' → (j < length order) ⊎ (j ≡ length order)
    old-or-new j h = elim (cases_lt j (length order)) [ inl lt ↦ inl lt | inr ge ↦ inr (omega (arith, longer)) ]

    -- a place that was there is not the new state's
    apart : (j : ℕ) → j < length order → slice_index order j ≢ next_of a (slice_index order i) l
    apart j h e = let at = w.placed j h in let none = unmet in let same : slice_index_or places (slice_index order j) None ≡ slice_index_or places (next_of a (slice_index order i) l) None = ap (λ (q : ℕ). slice_index_or places q None) e in cc

    found' : (q j : ℕ) → slice_index_or places' q None ≡ Some j → (j < length order') × (slice_index order' j ≡ q)
    found' q j at =
        elim (cases_eq q (next_of a (slice_index order i) l)) [
          | inl same ↦
              let here : slice_index_or places' q None ≡ Some (length order) = ap (λ (x : ℕ). slice_index_or places' x None) same ∙ get_or-set_same places (next_of a (slice_index order i) l) (Some (length order)) None (subst (λ (m : ℕ). next_of a (slice_index order i) l < m) (sym w.place_count) next-within) in
              let is : j ≡ length order = cc in
              (omega (arith, longer), ap (slice_index order') is ∙ order-new ∙ sym same)
          | inr other ↦
              let old = w.found q j (sym (get_or-set_other places (next_of a (slice_index order i) l) q (Some (length order)) None other) ∙ at) in
              (omega (arith, longer, old.0), order-old j old.0 ∙ old.1)
        ]

    placed' : (j : ℕ) → j < length order' → slice_index_or places' (slice_index order' j) None ≡ Some j
    placed' j h =
        elim (old-or-new j h) [
          | inl old ↦
              ap (λ (q : ℕ). slice_index_or places' q None) (order-old j old)
              ∙ get_or-set_other places (next_of a (slice_index order i) l) (slice_index order j) (Some (length order)) None (apart j old)
              ∙ w.placed j old
          | inr new ↦
              ap (λ (k : ℕ). slice_index_or places' (slice_index order' k) None) new
              ∙ ap (λ (q : ℕ). slice_index_or places' q None) order-new
              ∙ get_or-set_same places (next_of a (slice_index order i) l) (Some (length order)) None (subst (λ (m : ℕ). next_of a (slice_index order i) l < m) (sym w.place_count) next-within)
              ∙ ap Some (sym new)
        ]

    -- a fact on places that were there, and on the new one
    for-all : (P : ℕ → ℕ → ℕ → ℕ → Type 0) → ((j : ℕ) → 0 < j → j < length order → P j (slice_index order j) (slice_index parents j) (slice_index letters j)) → P (length order) (next_of a (slice_index order i) l) i l →
        (j : ℕ) → 0 < j → j < length order' → P j (slice_index order' j) (slice_index parents' j) (slice_index letters' j)
    for-all P each here j some h =
        elim (old-or-new j h) [
          | inl old ↦ subst (λ (x : ℕ). P j x (slice_index parents' j) (slice_index letters' j)) (sym (order-old j old)) (subst (λ (x : ℕ). P j (slice_index order j) x (slice_index letters' j)) (sym (parent-old j old)) (subst (P j (slice_index order j) (slice_index parents j)) (sym (letter-old j old)) (each j some old)))
          | inr new ↦
              let here' = subst (λ (x : ℕ). P (length order) x (slice_index parents' (length order)) (slice_index letters' (length order))) (sym order-new) (subst (λ (x : ℕ). P (length order) (next_of a (slice_index order i) l) x (slice_index letters' (length order))) (sym parent-new) (subst (P (length order) (next_of a (slice_index order i) l) i) (sym letter-new) here)) in
              subst (λ (k : ℕ). P k (slice_index order' k) (slice_index parents' k) (slice_index letters' k)) (sym new) here'
        ]

    earlier' : (j : ℕ) → 0 < j → j < length order' → slice_index parents' j < j
    earlier' = for-all (λ j q p m. p < j) w.earlier inside_i

    edge' : (j : ℕ) → 0 < j → j < length order' → next_of a (slice_index order' (slice_index parents' j)) (slice_index letters' j) ≡ slice_index order' j
    edge' = for-all (λ j q p m. next_of a (slice_index order' p) m ≡ q)
        (λ j some h. (let up = w.earlier j some h in ap (λ (x : ℕ). next_of a x (slice_index letters j)) (order-old (slice_index parents j) (omega (arith, up))) ∙ w.edge j some h))
        (ap (λ (x : ℕ). next_of a x l) (order-old i inside_i))

    increasing' : (j k : ℕ) → 0 < j → j < k → k < length order' → Before (slice_index parents' j) (slice_index letters' j) (slice_index parents' k) (slice_index letters' k)
    increasing' j k some lt h =
        let below : j < length order = omega (arith, longer) in
        let at : (x y : ℕ) → Before (slice_index parents j) (slice_index letters j) x y → Before (slice_index parents' j) (slice_index letters' j) x y =
        λ x y before. subst (λ (p : ℕ). Before p (slice_index letters' j) x y) (sym (parent-old j below)) (subst (λ (m : ℕ). Before (slice_index parents j) m x y) (sym (letter-old j below)) before) in
        elim (old-or-new k h) [
          | inl old ↦ at (slice_index parents' k) (slice_index letters' k) (subst (λ (p : ℕ). Before (slice_index parents j) (slice_index letters j) p (slice_index letters' k)) (sym (parent-old k old)) (subst (Before (slice_index parents j) (slice_index letters j) (slice_index parents k)) (sym (letter-old k old)) (w.increasing j k some lt old)))
          | inr new ↦
              let p_k : slice_index parents' k ≡ i = ap (slice_index parents') new ∙ parent-new in
              let m_k : slice_index letters' k ≡ l = ap (slice_index letters') new ∙ letter-new in
              at (slice_index parents' k) (slice_index letters' k) (subst (λ (p : ℕ). Before (slice_index parents j) (slice_index letters j) p (slice_index letters' k)) (sym p_k) (subst (Before (slice_index parents j) (slice_index letters j) i) (sym m_k) (w.past j some below)))
        ]

    done' : (p m : ℕ) → p < length order' → IsLetter a.tracks m → Before p m i (l + 1) →
        (j : ℕ) × (j < length order') × (slice_index order' j ≡ next_of a (slice_index order' p) m) × (0 < j → Before (slice_index parents' j) (slice_index letters' j) p (suc m))
    done' p m h is_m before = split (last-done p m i l before)
      where
        split : Before p m i l ⊎ ((p ≡ i) × (m ≡ l)) → (j : ℕ) × (j < length order') × (slice_index order' j ≡ next_of a (slice_index order' p) m) × (0 < j → Before (slice_index parents' j) (slice_index letters' j) p (suc m))
        split (inl old) =
            let inside : p < length order = elim old [ inl lt ↦ omega (arith, lt, inside_i) | inr same ↦ omega (arith, same.0, inside_i) ] in
            let (j, below, is, bound) = w.done p m inside is_m old in (
              j,
              omega (arith, below, longer),
              order-old j below ∙ is ∙ ap (λ (x : ℕ). next_of a x m) (sym (order-old p inside)),
              λ some. subst (λ (x : ℕ). Before x (slice_index letters' j) p (suc m)) (sym (parent-old j below)) (subst (λ (y : ℕ). Before (slice_index parents j) y p (suc m)) (sym (letter-old j below)) (bound some)),
            )
        split (inr here) = (
          length order,
          omega (arith, longer),
          order-new ∙ ap (λ (x : ℕ). next_of a x l) (sym (order-old i inside_i)) ∙ ap (λ (x : ℕ). next_of a (slice_index order' x) l) (sym here.0) ∙ ap (next_of a (slice_index order' p)) (sym here.1),
          λ some. inr (parent-new ∙ sym here.0, omega (arith, letter-new, here.1)),
        )

    pub walk-new : IsWalk a start order' parents' letters' places' i (l + 1)
    walk-new = record {
      parent_count = (let more = length-append parents (i ∷ []) in omega (arith, more, longer, w.parent_count));
      letter_count = (let more = length-append letters (l ∷ []) in omega (arith, more, longer, w.letter_count));
      place_count = length-set places (next_of a (slice_index order i) l) (Some (length order)) ∙ w.place_count;
      some = omega (arith, longer);
      first = order-old 0 w.some ∙ w.first;
      within = λ j h. elim (old-or-new j h) [ inl old ↦ subst (λ (q : ℕ). q < a.states) (sym (order-old j old)) (w.within j old) | inr new ↦ subst (λ (q : ℕ). q < a.states) (sym (ap (slice_index order') new ∙ order-new)) next-within ];
      found = found';
      placed = placed';
      earlier = earlier';
      letter = for-all (λ j q p m. IsLetter a.tracks m) w.letter is_l;
      edge = edge';
      past = for-all (λ j q p m. Before p m i (l + 1)) (λ j some h. later (slice_index parents j) (slice_index letters j) i l (w.past j some h)) (inr (refl, omega arith));
      increasing = increasing';
      done = done';
    }

-- one more place is done
pub walk-row : (a : Automaton) (start : ℕ) (order parents letters : List ℕ) (places : List (Option ℕ)) (i : ℕ) → IsWalk a start order parents letters places i (2 ^ a.tracks) → IsWalk a start order parents letters places (i + 1) 0
walk-row a start order parents letters places i w = record {
  parent_count = w.parent_count;
  letter_count = w.letter_count;
  place_count = w.place_count;
  some = w.some;
  first = w.first;
  within = w.within;
  found = w.found;
  placed = w.placed;
  earlier = w.earlier;
  letter = w.letter;
  edge = w.edge;
  past = λ k some inside. up (slice_index parents k) (slice_index letters k) (w.past k some inside);
  increasing = w.increasing;
  done = λ p m inside is_m before. w.done p m inside is_m (down p m is_m before);
}
  where
    up : (p m : ℕ) → Before p m i (2 ^ a.tracks) → Before p m (i + 1) 0
    up p m (inl h) = inl (omega (arith, h))
    up p m (inr h) = inl (omega (arith, h.0))

    down : (p m : ℕ) → m < 2 ^ a.tracks → Before p m (i + 1) 0 → Before p m i (2 ^ a.tracks)
    down p m is_m (inl h) = elim (cases_eq p i) [ inl same ↦ inr (same, is_m) | inr other ↦ inl (omega (arith, h, other)) ]
    down p m is_m (inr h) = absurd (omega (arith, h.1))

-- the start alone
pub walk-begins : (a : Automaton) (start : ℕ) → start < a.states → (none : List (Option ℕ)) → length none ≡ a.states → ((q : ℕ) → slice_index_or none q None ≡ None) → IsWalk a start (start ∷ []) (0 ∷ []) (0 ∷ []) (set none start (Some 0)) 0 0
walk-begins a start inside none size empty = record {
  parent_count = refl;
  letter_count = refl;
  place_count = length-set none start (Some 0) ∙ size;
  some = omega arith;
  first = refl;
  within = λ j h. (let z : j ≡ 0 = omega arith in subst (λ (k : ℕ). slice_index (start ∷ []) k < a.states) (sym z) inside);
  found = found;
  placed = λ j h. (let z : j ≡ 0 = omega arith in subst (λ (k : ℕ). slice_index_or (set none start (Some 0)) (slice_index (start ∷ []) k) None ≡ Some k) (sym z) here);
  earlier = λ j some h. absurd (omega arith);
  letter = λ j some h. absurd (omega arith);
  edge = λ j some h. absurd (omega arith);
  past = λ j some h. absurd (omega arith);
  increasing = λ j k some lt h. absurd (omega arith);
  done = λ p m h is_m before. absurd (elim before [ inl lt ↦ omega (arith, lt) | inr same ↦ omega (arith, same.1) ]);
}
  where
    here : slice_index_or (set none start (Some 0)) start None ≡ Some 0
    here = get_or-set_same none start (Some 0) None (subst (λ (m : ℕ). start < m) (sym size) inside)

    found : (q j : ℕ) → slice_index_or (set none start (Some 0)) q None ≡ Some j → (j < 1) × (slice_index (start ∷ []) j ≡ q)
    found q j at =
        elim (cases_eq q start) [
          | inl same ↦
              let this : slice_index_or (set none start (Some 0)) q None ≡ Some 0 = ap (λ (x : ℕ). slice_index_or (set none start (Some 0)) x None) same ∙ here in
              let z : j ≡ 0 = cc in
              (omega arith, ap (slice_index (start ∷ [])) z ∙ sym same)
          | inr other ↦ absurd (let no = empty q in let yes = sym (get_or-set_other none start q (Some 0) None other) ∙ at in (cc))
        ]
