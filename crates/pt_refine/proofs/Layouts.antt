-- The layout of classes through a swap of two states and a cut of a class.
use Rattle.std.proofs.Common.{◌≡◌, ◌≢◌, ◌⊎◌, inl, inr, ℕ, ◌+◌, ◌<◌, ◌≤◌, refl, ap, sym, ◌∙◌, subst, arith}
use Rattle.std.proofs.lemmas.Bool.{cases_eq, cases_lt}
use Rattle.pt_refine.specs.Halving.{IsLayout}
use Rattle.pt_refine.proofs.Pigeonhole.{injective-le}

-- a class has a state, so there are at most as many classes as states
pub layout-count : {n count : ℕ} {order place class starts ends marked : ℕ → ℕ} → IsLayout n count order place class starts ends marked → count ≤ n
layout-count {n} {count} {order} {place} {class} {starts} {ends} {marked} lay =
    let first : (c : ℕ) → c < count → (starts c < n) × (class (order (starts c)) ≡ c) = λ c c_in. let some = lay.some c c_in in lay.members c (starts c) c_in (omega arith) some in
    injective-le count n starts (λ c c_in. (first c c_in).0)
    (λ c d c_in d_in e. sym (first c c_in).1 ∙ ap (λ i. class (order i)) e ∙ (first d d_in).1)

-- the states at two places of one class change places
pub layout-swap : {n count : ℕ} {order place class starts ends marked : ℕ → ℕ} → IsLayout n count order place class starts ends marked →
    (q r : ℕ) (order' place' : ℕ → ℕ) → q < n → r < n → class q ≡ class r →
    order' (place q) ≡ r → order' (place r) ≡ q → ((i : ℕ) → i ≢ place q → i ≢ place r → order' i ≡ order i) →
    place' q ≡ place r → place' r ≡ place q → ((x : ℕ) → x ≢ q → x ≢ r → place' x ≡ place x) →
    IsLayout n count order' place' class starts ends marked
layout-swap {n} {count} {order} {place} {class} {starts} {ends} {marked} lay q r order' place' q_in r_in same order_q order_r order_others place_q place_r place_others =
    let apart : (x y : ℕ) → x < n → y < n → x ≢ y → place x ≢ place y = λ x y x_in y_in ne e. ne (sym (lay.there x x_in) ∙ ap order e ∙ lay.there y y_in) in
    record {
      order_in = λ i i_in. elim (cases_eq i (place q)) [
        | inl e ↦ let P : ℕ → Type 0 = λ x. x < n in subst P (sym (ap order' e ∙ order_q)) r_in
        | inr q_ne ↦ elim (cases_eq i (place r)) [
          | inl e ↦ let P : ℕ → Type 0 = λ x. x < n in subst P (sym (ap order' e ∙ order_r)) q_in
          | inr r_ne ↦ let P : ℕ → Type 0 = λ x. x < n in subst P (sym (order_others i q_ne r_ne)) (lay.order_in i i_in)
        ]
      ];
      place_in = λ x x_in. elim (cases_eq x q) [
        | inl e ↦ let P : ℕ → Type 0 = λ i. i < n in subst P (sym (ap place' e ∙ place_q)) (lay.place_in r r_in)
        | inr q_ne ↦ elim (cases_eq x r) [
          | inl e ↦ let P : ℕ → Type 0 = λ i. i < n in subst P (sym (ap place' e ∙ place_r)) (lay.place_in q q_in)
          | inr r_ne ↦ let P : ℕ → Type 0 = λ i. i < n in subst P (sym (place_others x q_ne r_ne)) (lay.place_in x x_in)
        ]
      ];
      there = λ x x_in. elim (cases_eq x q) [
        | inl e ↦ ap order' (ap place' e ∙ place_q) ∙ order_r ∙ sym e
        | inr q_ne ↦ elim (cases_eq x r) [
          | inl e ↦ ap order' (ap place' e ∙ place_r) ∙ order_q ∙ sym e
          | inr r_ne ↦ ap order' (place_others x q_ne r_ne) ∙ order_others (place x) (apart x q x_in q_in q_ne) (apart x r x_in r_in r_ne) ∙ lay.there x x_in
        ]
      ];
      back = λ i i_in. elim (cases_eq i (place q)) [
        | inl e ↦ ap place' (ap order' e ∙ order_q) ∙ place_r ∙ sym e
        | inr q_ne ↦ elim (cases_eq i (place r)) [
          | inl e ↦ ap place' (ap order' e ∙ order_r) ∙ place_q ∙ sym e
          | inr r_ne ↦
              let back = lay.back i i_in in
              ap place' (order_others i q_ne r_ne) ∙ place_others (order i) (λ e. q_ne (sym back ∙ ap place e)) (λ e. r_ne (sym back ∙ ap place e)) ∙ back
        ]
      ];
      class_in = lay.class_in;
      within = λ x x_in. elim (cases_eq x q) [
        | inl e ↦ let P : ℕ → ℕ → Type 0 = λ d i. (starts d ≤ i) × (i < ends d) in
            let moved : P (class q) (place r) = let Q : ℕ → Type 0 = λ d. P d (place r) in subst Q (sym same) (lay.within r r_in) in
            let Q : ℕ → Type 0 = λ d. P d (place' x) in
            let R : ℕ → Type 0 = λ i. P (class q) i in
            subst Q (sym (ap class e)) (subst R (sym (ap place' e ∙ place_q)) moved)
        | inr q_ne ↦ elim (cases_eq x r) [
          | inl e ↦ let P : ℕ → ℕ → Type 0 = λ d i. (starts d ≤ i) × (i < ends d) in
              let moved : P (class r) (place q) = let Q : ℕ → Type 0 = λ d. P d (place q) in subst Q same (lay.within q q_in) in
              let Q : ℕ → Type 0 = λ d. P d (place' x) in
              let R : ℕ → Type 0 = λ i. P (class r) i in
              subst Q (sym (ap class e)) (subst R (sym (ap place' e ∙ place_r)) moved)
          | inr r_ne ↦ let R : ℕ → Type 0 = λ i. (starts (class x) ≤ i) × (i < ends (class x)) in subst R (sym (place_others x q_ne r_ne)) (lay.within x x_in)
        ]
      ];
      members = λ d i d_in low high.
          let old = lay.members d i d_in low high in (
            old.0,
            elim (cases_eq i (place q)) [
              | inl e ↦ ap class (ap order' e ∙ order_q) ∙ sym same ∙ sym (ap class (ap order e ∙ lay.there q q_in)) ∙ old.1
              | inr q_ne ↦ elim (cases_eq i (place r)) [
                | inl e ↦ ap class (ap order' e ∙ order_r) ∙ same ∙ sym (ap class (ap order e ∙ lay.there r r_in)) ∙ old.1
                | inr r_ne ↦ ap class (order_others i q_ne r_ne) ∙ old.1
              ]
            ],
          );
      some = lay.some;
      marks = lay.marks;
    }

-- the places from a cut on, or those up to it, become a class of their own
pub layout-split : {n count : ℕ} {order place class starts ends marked : ℕ → ℕ} → IsLayout n count order place class starts ends marked →
    (c low high count' : ℕ) (class' starts' ends' marked' : ℕ → ℕ) → c < count → starts c ≤ low → low < high → high ≤ ends c → count' ≡ count + 1 →
    -- the new class has the places from low to high, and the old one what is left of it
    ((q : ℕ) → q < n → low ≤ place q → place q < high → class' q ≡ count) → ((q : ℕ) → q < n → (place q < low) ⊎ (high ≤ place q) → class' q ≡ class q) →
    ((starts c ≡ low) × (starts' c ≡ high) × (ends' c ≡ ends c) × (high < ends c)) ⊎ ((high ≡ ends c) × (starts' c ≡ starts c) × (ends' c ≡ low) × (starts c < low)) →
    starts' count ≡ low → ends' count ≡ high → ((d : ℕ) → d < count → d ≢ c → (starts' d ≡ starts d) × (ends' d ≡ ends d)) →
    ((d : ℕ) → d < count' → (starts' d ≤ marked' d) × (marked' d ≤ ends' d)) → IsLayout n count' order place class' starts' ends' marked'
layout-split {n} {count} {order} {place} {class} {starts} {ends} {marked} lay c low high count' class' starts' ends' marked' c_in from some to count'_is moved stays left new_start new_end others marks' =
    let new_in : count < count' = omega arith in
    let nonempty : (d : ℕ) → d < count' → starts' d < ends' d = λ d d_in. elim (cases_eq d count) [
      | inl e ↦ let s = ap starts' e in let t = ap ends' e in omega arith
      | inr new_ne ↦ elim (cases_eq d c) [
        | inl e ↦
            let s = ap starts' e in
            let t = ap ends' e in
            elim left [
              | inl front ↦ let s_is = front.1 in let t_is = front.2 in let lt = front.3 in omega arith
              | inr rear ↦ let s_is = rear.1 in let t_is = rear.2 in let lt = rear.3 in omega arith
            ]
        | inr ne ↦ let old = others d (omega arith) ne in let lt = lay.some d (omega arith) in let s = old.0 in let t = old.1 in omega arith
      ]
    ] in
    record {
      order_in = lay.order_in;
      place_in = lay.place_in;
      there = lay.there;
      back = lay.back;
      class_in = λ x x_in. elim (where_is (place x)) [
        | inl in' ↦ let e = moved x x_in in'.0 in'.1 in omega arith
        | inr out ↦ let e = stays x x_in out in let lt = lay.class_in x x_in in omega arith
      ];
      within = λ x x_in. elim (where_is (place x)) [
        | inl in' ↦
            let e = moved x x_in in'.0 in'.1 in
            let s = ap starts' e in
            let t = ap ends' e in
            let l = in'.0 in
            let h = in'.1 in
            (omega arith, omega arith)
        | inr out ↦
            let e = stays x x_in out in
            let s = ap starts' e in
            let t = ap ends' e in
            let old = lay.within x x_in in
            let l = old.0 in
            let h = old.1 in
            elim (cases_eq (class x) c) [
              | inl x_c ↦
                  let s_c = ap starts x_c in
                  let t_c = ap ends x_c in
                  let s'_c = ap starts' x_c in
                  let t'_c = ap ends' x_c in
                  elim left [
                    | inl front ↦
                        let s_is = front.1 in
                        let t_is = front.2 in
                        let low_is = front.0 in
                        elim out [ inl below ↦ absurd (omega arith) | inr above ↦ (omega arith, omega arith) ]
                    | inr rear ↦
                        let s_is = rear.1 in
                        let t_is = rear.2 in
                        let high_is = rear.0 in
                        elim out [ inl below ↦ (omega arith, omega arith) | inr above ↦ absurd (omega arith) ]
                  ]
              | inr ne ↦
                  let kept = others (class x) (lay.class_in x x_in) ne in
                  let s_is = kept.0 in
                  let t_is = kept.1 in
                  (omega arith, omega arith)
            ]
      ];
      members = λ d i d_in l h. elim (cases_eq d count) [
        | inl e ↦
            let s = ap starts' e in
            let t = ap ends' e in
            let low_i : low ≤ i = omega arith in
            let i_high : i < high = omega arith in
            let old = lay.members c i c_in (omega arith) (omega arith) in
            let back = lay.back i old.0 in
            (old.0, moved (order i) (lay.order_in i old.0) (omega arith) (omega arith) ∙ sym e)
        | inr new_ne ↦ elim (cases_eq d c) [
          | inl e ↦
              let s = ap starts' e in
              let t = ap ends' e in
              elim left [
                | inl front ↦
                    let s_is = front.1 in
                    let t_is = front.2 in
                    let old = lay.members c i c_in (omega arith) (omega arith) in
                    let back = lay.back i old.0 in
                    (old.0, stays (order i) (lay.order_in i old.0) (inr (omega arith)) ∙ old.1 ∙ sym e)
                | inr rear ↦
                    let s_is = rear.1 in
                    let t_is = rear.2 in
                    let old = lay.members c i c_in (omega arith) (omega arith) in
                    let back = lay.back i old.0 in
                    (old.0, stays (order i) (lay.order_in i old.0) (inl (omega arith)) ∙ old.1 ∙ sym e)
              ]
          | inr ne ↦
              let kept = others d (omega arith) ne in
              let s_is = kept.0 in
              let t_is = kept.1 in
              let old = lay.members d i (omega arith) (omega arith) (omega arith) in
              let back = lay.back i old.0 in
              elim (where_is i) [
                | inl in' ↦
                    let inner_low = in'.0 in
                    let inner_high = in'.1 in
                    let of_c = lay.members c i c_in (omega arith) (omega arith) in
                    absurd (ne (sym old.1 ∙ of_c.1))
                | inr out ↦
                    let P : ℕ → Type 0 = λ j. (j < low) ⊎ (high ≤ j) in
                    (old.0, stays (order i) (lay.order_in i old.0) (subst P (sym back) out) ∙ old.1)
              ]
        ]
      ];
      some = nonempty;
      marks = marks';
    }
  where
    where_is : (i : ℕ) → ((low ≤ i) × (i < high)) ⊎ ((i < low) ⊎ (high ≤ i))
    where_is i = elim (cases_lt i low) [
      | inl below ↦ inr (inl below)
      | inr above ↦ elim (cases_lt i high) [ inl inner ↦ inl (above, inner) | inr past ↦ inr (inr past) ]
    ]
