-- A state goes to the marked front of its class.
use Rattle.std.proofs.Common.{◌≡◌, ◌≢◌, ◌⊎◌, inl, inr, ℕ, ◌+◌, ◌<◌, ◌≤◌, ◌↔◌, List, length, get_or, set, refl, ap, sym, ◌∙◌, subst, arith}
use Rattle.std.proofs.lemmas.Bool.{cases_eq, cases_lt}
use Rattle.std.proofs.lemmas.List.{get_or-set_same, get_or-set_other, length-set}
use Rattle.pt_refine.specs.Halving.{IsLayout}
use Rattle.pt_refine.proofs.Layouts.{layout-swap}

module _ (n count : ℕ) (order place class starts ends marked : List ℕ)
    (lay : IsLayout n count (λ i. get_or order i 0) (λ q. get_or place q 0) (λ q. get_or class q 0) (λ c. get_or starts c 0) (λ c. get_or ends c 0) (λ c. get_or marked c 0))
    (order_len : length order ≡ n) (place_len : length place ≡ n) (marked_len : length marked ≡ count)
    (q c front at other : ℕ) (q_in : q < n) (c_is : get_or class q 0 ≡ c) (front_is : get_or marked c 0 ≡ front) (at_is : get_or place q 0 ≡ at) (other_is : get_or order front 0 ≡ other) (unmarked : front ≤ at) where
  c_in : c < count
  c_in = let lt = lay.class_in q q_in in omega arith

  -- the first place behind the front belongs to the class
  front-of : (get_or starts c 0 ≤ front) × (front < get_or ends c 0) × (at < get_or ends c 0)
  front-of =
      let marks = lay.marks c c_in in
      let low = marks.0 in
      let within = lay.within q q_in in
      let e : get_or ends (get_or class q 0) 0 ≡ get_or ends c 0 = ap (λ d. get_or ends d 0) c_is in
      let high = within.1 in
      (omega arith, omega arith, omega arith)

  front-member : (front < n) × (get_or class (get_or order front 0) 0 ≡ c)
  front-member = lay.members c front c_in front-of.0 front-of.1

  pub other-in : other < n
  other-in = let lt = lay.order_in front front-member.0 in omega arith

  pub front-in : front < n
  front-in = front-member.0

  other-place : get_or place other 0 ≡ front
  other-place = ap (λ x. get_or place x 0) (sym other_is) ∙ lay.back front front-member.0

  other-class : get_or class other 0 ≡ c
  other-class = ap (λ x. get_or class x 0) (sym other_is) ∙ front-member.1

  at-in : at < n
  at-in = let lt = lay.place_in q q_in in omega arith

  same-state : at ≡ front → other ≡ q
  same-state e = sym other_is ∙ ap (λ i. get_or order i 0) (sym e ∙ sym at_is) ∙ lay.there q q_in

  order-front : get_or (set (set order at other) front q) front 0 ≡ q
  order-front = let long = length-set order at other in let lt = front-in in get_or-set_same (set order at other) front q 0 (omega arith)

  order-at : get_or (set (set order at other) front q) at 0 ≡ other
  order-at = elim (cases_eq at front) [
    | inl e ↦ ap (λ i. get_or (set (set order at other) front q) i 0) e ∙ order-front ∙ sym (same-state e)
    | inr ne ↦ let lt = at-in in get_or-set_other (set order at other) front at q 0 ne ∙ get_or-set_same order at other 0 (omega arith)
  ]

  place-q : get_or (set (set place other at) q front) q 0 ≡ front
  place-q = let long = length-set place other at in get_or-set_same (set place other at) q front 0 (omega arith)

  place-other : get_or (set (set place other at) q front) other 0 ≡ at
  place-other = elim (cases_eq other q) [
    | inl e ↦
        let both : at ≡ front = sym at_is ∙ ap (λ x. get_or place x 0) (sym e) ∙ other-place in
        ap (λ x. get_or (set (set place other at) q front) x 0) e ∙ place-q ∙ sym both
    | inr ne ↦ let lt = other-in in get_or-set_other (set place other at) q other front 0 ne ∙ get_or-set_same place other at 0 (omega arith)
  ]

  place-others : (x : ℕ) → x ≢ q → x ≢ other → get_or (set (set place other at) q front) x 0 ≡ get_or place x 0
  place-others x q_ne other_ne = get_or-set_other (set place other at) q x front 0 q_ne ∙ get_or-set_other place other x at 0 other_ne

  swapped : IsLayout n count (λ i. get_or (set (set order at other) front q) i 0) (λ x. get_or (set (set place other at) q front) x 0) (λ x. get_or class x 0) (λ d. get_or starts d 0) (λ d. get_or ends d 0) (λ d. get_or marked d 0)
  swapped = layout-swap lay q other (λ i. get_or (set (set order at other) front q) i 0) (λ x. get_or (set (set place other at) q front) x 0) q_in other-in (c_is ∙ sym other-class)
      (ap (λ i. get_or (set (set order at other) front q) i 0) at_is ∙ order-at)
      (ap (λ i. get_or (set (set order at other) front q) i 0) other-place ∙ order-front)
      (λ i q_ne other_ne. get_or-set_other (set order at other) front i q 0 (λ e. other_ne (e ∙ sym other-place)) ∙ get_or-set_other order at i other 0 (λ e. q_ne (e ∙ sym at_is)))
      (place-q ∙ sym other-place) (place-other ∙ sym at_is) place-others

  marked-c : get_or (set marked c (front + 1)) c 0 ≡ front + 1
  marked-c = let lt = c_in in get_or-set_same marked c (front + 1) 0 (omega arith)

  pub layout-mark : IsLayout n count (λ i. get_or (set (set order at other) front q) i 0) (λ x. get_or (set (set place other at) q front) x 0) (λ x. get_or class x 0) (λ d. get_or starts d 0) (λ d. get_or ends d 0) (λ d. get_or (set marked c (front + 1)) d 0)
  layout-mark = record {
    order_in = swapped.order_in;
    place_in = swapped.place_in;
    there = swapped.there;
    back = swapped.back;
    class_in = swapped.class_in;
    within = swapped.within;
    members = swapped.members;
    some = swapped.some;
    marks = λ d d_in. elim (cases_eq d c) [
      | inl e ↦
          let is = ap (λ x. get_or (set marked c (front + 1)) x 0) e ∙ marked-c in
          let s = ap (λ x. get_or starts x 0) e in
          let t = ap (λ x. get_or ends x 0) e in
          let low = front-of.0 in
          let high = front-of.1 in
          (omega arith, omega arith)
      | inr ne ↦ let is = get_or-set_other marked c d (front + 1) 0 ne in let old = lay.marks d d_in in let l = old.0 in let h = old.1 in (omega arith, omega arith)
    ];
  }

  pub mark-here : get_or (set (set place other at) q front) q 0 < get_or (set marked c (front + 1)) (get_or class q 0) 0
  mark-here = let is = ap (λ x. get_or (set marked c (front + 1)) x 0) c_is ∙ marked-c in let p = place-q in omega arith

  pub mark-others : (r : ℕ) → r < n → r ≢ q → (get_or (set (set place other at) q front) r 0 < get_or (set marked c (front + 1)) (get_or class r 0) 0) ↔ (get_or place r 0 < get_or marked (get_or class r 0) 0)
  mark-others r r_in ne = elim (cases_eq r other) [
    | inl e ↦
        let p = ap (λ x. get_or (set (set place other at) q front) x 0) e ∙ place-other in
        let old_p = ap (λ x. get_or place x 0) e ∙ other-place in
        let r_class = ap (λ x. get_or class x 0) e ∙ other-class in
        let m = ap (λ x. get_or (set marked c (front + 1)) x 0) r_class ∙ marked-c in
        let old_m = ap (λ x. get_or marked x 0) r_class ∙ front_is in
        let differ : at ≢ front = λ same. ne (e ∙ same-state same) in
        (λ lt. absurd (omega arith), λ lt. absurd (omega arith))
    | inr other_ne ↦
        let p = place-others r ne other_ne in
        elim (cases_eq (get_or class r 0) c) [
          | inl r_class ↦
              let m = ap (λ x. get_or (set marked c (front + 1)) x 0) r_class ∙ marked-c in
              let old_m = ap (λ x. get_or marked x 0) r_class ∙ front_is in
              let off : get_or place r 0 ≢ front = λ e. other_ne (sym (lay.there r r_in) ∙ ap (λ i. get_or order i 0) e ∙ other_is) in
              (λ lt. omega arith, λ lt. omega arith)
          | inr r_class ↦ let m = get_or-set_other marked c (get_or class r 0) (front + 1) 0 r_class in (λ lt. omega arith, λ lt. omega arith)
        ]
  ]

  -- where the front is not empty, a state of the class is marked
  pub mark-first : get_or starts c 0 ≢ front → (r : ℕ) × (r < n) × (get_or class r 0 ≡ get_or class q 0) × (get_or place r 0 < get_or marked (get_or class r 0) 0)
  mark-first ne =
      let low = front-of.0 in
      let high = front-of.1 in
      let member = lay.members c (get_or starts c 0) c_in (omega arith) (omega arith) in
      let r = get_or order (get_or starts c 0) 0 in
      let back = lay.back (get_or starts c 0) member.0 in
      let m = ap (λ d. get_or marked d 0) member.1 in
      (r, lay.order_in (get_or starts c 0) member.0, member.1 ∙ sym c_is, omega arith)
