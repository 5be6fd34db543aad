-- Classes are cut into their marked states and the others.
use Rattle.std.proofs.Common.{◌≡◌, ◌≢◌, ◌⊎◌, inl, inr, ℕ, zero, suc, ◌+◌, ◌-◌, ◌<◌, ◌≤◌, ◌↔◌, List, [], ◌∷◌, ◌++◌, length, get_or, set, refl, ap, sym, ◌∙◌, subst, arith}
use Rattle.std.specs.List.{Contains}
use Rattle.std.proofs.lemmas.Bool.{cases_eq, cases_lt}
use Rattle.std.proofs.lemmas.List.{get_or_default, get_or_append_left, get_or_push, get_or-set_same, get_or-set_other, length-set, length_push}
use Rattle.pt_refine.specs.Halving.{SplitsBy, CutsAt, IsLayout}
use Rattle.pt_refine.proofs.Layouts.{layout-split}

-- a split depends on which states have the property
pub splits-same : {n count : ℕ} {In In' : ℕ → Type 0} {class class' : ℕ → ℕ} → SplitsBy n count In class class' → ((q : ℕ) → q < n → In q ↔ In' q) → SplitsBy n count In' class class'
splits-same {n} {count} {In} {In'} {class} {class'} splits same = record {
  finer = λ q r q_in r_in e.
      let both = splits.finer q r q_in r_in e in
      (both.0, (λ q_at. (same r r_in).0 (both.1.0 ((same q q_in).1 q_at)), λ r_at. (same q q_in).0 (both.1.1 ((same r r_in).1 r_at))));
  same = λ q r q_in r_in e iff.
      splits.same q r q_in r_in e (λ q_at. (same r r_in).1 (iff.0 ((same q q_in).0 q_at)), λ r_at. (same q q_in).1 (iff.1 ((same r r_in).0 r_at)));
  numbers = splits.numbers;
}

-- a number is among the first k of a list
abbrev pub IsBefore : List ℕ → ℕ → ℕ → Type 0
IsBefore xs k x = (i : ℕ) × (i < k) × (get_or xs i 0 ≡ x)

pub before-more : (xs : List ℕ) (k x : ℕ) → IsBefore xs k x → IsBefore xs (k + 1) x
before-more xs k x at = let lt = at.1 in (at.0, omega arith, at.2)

pub before-last : (xs : List ℕ) (k : ℕ) → IsBefore xs (k + 1) (get_or xs k 0)
before-last xs k = (k, omega arith, refl)

pub before-cases : (xs : List ℕ) (k x : ℕ) → IsBefore xs (k + 1) x → IsBefore xs k x ⊎ (x ≡ get_or xs k 0)
before-cases xs k x at = elim (cases_lt at.0 k) [
  | inl lt ↦ inl (at.0, lt, at.2)
  | inr past ↦ let lt = at.1 in let same : at.0 ≡ k = omega arith in inr (sym at.2 ∙ ap (λ i. get_or xs i 0) same)
]

pub before-all : (xs : List ℕ) (k x : ℕ) → k ≡ length xs → IsBefore xs k x ↔ Contains xs x
before-all xs k x all = (
  λ at. let lt = at.1 in let within : at.0 < length xs = omega arith in (at.0, within, get_or_default xs at.0 x 0 within ∙ at.2),
  λ at. let within = at.1 in (at.0, omega arith, get_or_default xs at.0 0 x at.1 ∙ at.2),
)

cases_before : (xs : List ℕ) (k x : ℕ) → IsBefore xs k x ⊎ ¬ IsBefore xs k x
cases_before xs zero x = inr (λ at. let lt = at.1 in omega arith)
cases_before xs (suc k) x = elim (cases_eq (get_or xs k 0) x) [
  | inl e ↦ inl (k, omega arith, e)
  | inr ne ↦ elim (cases_before xs k x) [
    | inl at ↦ let lt = at.1 in inl (at.0, omega arith, at.2)
    | inr none ↦ inr (λ at. elim (cases_eq at.0 k) [
      | inl e ↦ ne (ap (λ i. get_or xs i 0) (sym e) ∙ at.2)
      | inr other ↦ let lt = at.1 in none (at.0, omega arith, at.2)
    ])
  ]
]

-- the first k of some classes were cut
pub record CutTo (n count : ℕ) (classes : List ℕ) (k : ℕ) (class class' : ℕ → ℕ) (Marked Marked' : ℕ → Type 0) : Type 0 where
  pub finer : (q r : ℕ) → q < n → r < n → class' q ≡ class' r → (class q ≡ class r) × (IsBefore classes k (class q) → Marked q ↔ Marked r)
  pub same : (q r : ℕ) → q < n → r < n → class q ≡ class r → (IsBefore classes k (class q) → Marked q ↔ Marked r) → class' q ≡ class' r
  pub numbers : (q : ℕ) → q < n → (class' q ≡ class q) ⊎ (count ≤ class' q)
  pub stays : (q : ℕ) → q < n → ¬ IsBefore classes k (class q) → class' q ≡ class q
  pub marked : (q : ℕ) → q < n → Marked' q → Marked q × ¬ IsBefore classes k (class q)
  pub unmarked : (q : ℕ) → q < n → Marked q → ¬ IsBefore classes k (class q) → Marked' q

pub cut-none : (n count : ℕ) (classes : List ℕ) (class : ℕ → ℕ) (Marked : ℕ → Type 0) → CutTo n count classes 0 class class Marked Marked
cut-none n count classes class Marked = record {
  finer = λ q r q_in r_in e. (e, λ at. let lt = at.1 in absurd (omega arith));
  same = λ q r q_in r_in e iff. e;
  numbers = λ q q_in. inl refl;
  stays = λ q q_in out. refl;
  marked = λ q q_in is. (is, λ at. let lt = at.1 in omega arith);
  unmarked = λ q q_in is out. is;
}

pub cut-more : {n count : ℕ} {classes : List ℕ} {k : ℕ} {class mid new : ℕ → ℕ} {Marked Mid New : ℕ → Type 0} → CutTo n count classes k class mid Marked Mid →
    (count' : ℕ) → count ≤ count' → CutsAt n count' (get_or classes k 0) mid new Mid New → CutTo n count classes (k + 1) class new Marked New
cut-more {n} {count} {classes} {k} {class} {mid} {new} {Marked} {Mid} {New} was count' grows cuts =
    let c = get_or classes k 0 in
    -- a state of a class that was not cut
    let out_of : (q : ℕ) → ¬ IsBefore classes (k + 1) (class q) → ¬ IsBefore classes k (class q) = λ q out at. out (before-more classes k (class q) at) in
    let not_c : (q : ℕ) → q < n → ¬ IsBefore classes (k + 1) (class q) → mid q ≢ c = λ q q_in out e.
    let is : c ≡ class q = sym e ∙ was.stays q q_in (out_of q out) in
    out (k, omega arith, is)
    in
    record {
      finer = λ q r q_in r_in e.
          let both = cuts.splits.finer q r q_in r_in e in
          let old = was.finer q r q_in r_in both.0 in (
            old.0,
            λ at. elim (cases_before classes k (class q)) [
              | inl before ↦ old.1 before
              | inr out ↦ elim (before-cases classes k (class q) at) [
                | inl before ↦ absurd (out before)
                | inr last ↦
                    let r_out : ¬ IsBefore classes k (class r) = λ r_at. out (r_at.0, r_at.1, r_at.2 ∙ sym old.0) in
                    let q_c : mid q ≡ c = was.stays q q_in out ∙ last in
                    let r_c : mid r ≡ c = sym both.0 ∙ q_c in (
                      λ q_is. (was.marked r r_in (both.1.0 (q_c, was.unmarked q q_in q_is out)).1).0,
                      λ r_is. (was.marked q q_in (both.1.1 (r_c, was.unmarked r r_in r_is r_out)).1).0,
                    )
              ]
            ],
          );
      same = λ q r q_in r_in e iff.
          let mid_same = was.same q r q_in r_in e (λ at. iff (before-more classes k (class q) at)) in
          cuts.splits.same q r q_in r_in mid_same (
            λ q_at.
                let old = was.marked q q_in q_at.1 in
                let is : c ≡ class q = sym q_at.0 ∙ was.stays q q_in old.1 in
                let r_is = (iff (k, omega arith, is)).0 old.0 in
                (sym mid_same ∙ q_at.0, was.unmarked r r_in r_is (λ r_at. old.1 (r_at.0, r_at.1, r_at.2 ∙ sym e))),
            λ r_at.
                let old = was.marked r r_in r_at.1 in
                let is : c ≡ class q = sym r_at.0 ∙ was.stays r r_in old.1 ∙ sym e in
                let q_is = (iff (k, omega arith, is)).1 old.0 in
                (mid_same ∙ r_at.0, was.unmarked q q_in q_is (λ q_at. old.1 (q_at.0, q_at.1, q_at.2 ∙ e))),
          );
      numbers = λ q q_in. elim (cuts.splits.numbers q q_in) [
        | inr fresh ↦ inr (omega arith)
        | inl kept ↦ elim (was.numbers q q_in) [ inl old ↦ inl (kept ∙ old) | inr fresh ↦ inr (omega arith) ]
      ];
      stays = λ q q_in out. cuts.stays q q_in (not_c q q_in out) ∙ was.stays q q_in (out_of q out);
      marked = λ q q_in is. elim (cases_eq (mid q) c) [
        | inl e ↦ absurd (cuts.done q q_in e is)
        | inr ne ↦
            let old = was.marked q q_in ((cuts.others q q_in ne).0 is) in (
              old.0,
              λ at. elim (before-cases classes k (class q) at) [
                | inl before ↦ old.1 before
                | inr last ↦ ne (was.stays q q_in old.1 ∙ last)
              ],
            )
      ];
      unmarked = λ q q_in is out. (cuts.others q q_in (not_c q q_in out)).1 (was.unmarked q q_in is (out_of q out));
    }

module _ {n count : ℕ} {classes : List ℕ} {k : ℕ} {class class' : ℕ → ℕ} {Marked Marked' : ℕ → Type 0} (was : CutTo n count classes k class class' Marked Marked')
    (listed : (q : ℕ) → q < n → Marked q → IsBefore classes k (class q)) where
  -- all marked states are told from the others of their classes
  pub cut-all : SplitsBy n count Marked class class'
  cut-all = record {
    finer = λ q r q_in r_in e.
        let old = was.finer q r q_in r_in e in (
          old.0,
          (
            λ q_is. (old.1 (listed q q_in q_is)).0 q_is,
            λ r_is. let at = listed r r_in r_is in (old.1 (at.0, at.1, at.2 ∙ sym old.0)).1 r_is,
          ),
        );
    same = λ q r q_in r_in e iff. was.same q r q_in r_in e (λ at. iff);
    numbers = was.numbers;
  }

  pub cut-unmarked : (q : ℕ) → q < n → ¬ Marked' q
  cut-unmarked q q_in is = let old = was.marked q q_in is in old.1 (listed q q_in old.0)

module _ {n count : ℕ} {order place class starts ends marked : ℕ → ℕ} (lay : IsLayout n count order place class starts ends marked) (c : ℕ) where
  pub none-marked : marked c ≡ starts c → (q : ℕ) → q < n → class q ≡ c → ¬ (place q < marked (class q))
  none-marked e q q_in is lt =
      let low = (lay.within q q_in).0 in
      let s = ap starts is in
      let m = ap marked is in
      omega arith

  all-marked : marked c ≡ ends c → (q : ℕ) → q < n → class q ≡ c → place q < marked (class q)
  all-marked e q q_in is =
      let high = (lay.within q q_in).1 in
      let t = ap ends is in
      let m = ap marked is in
      omega arith

  -- a class without marks stays
  pub cuts-nothing : marked c ≡ starts c → CutsAt n count c class class (λ q. place q < marked (class q)) (λ q. place q < marked (class q))
  cuts-nothing e = record {
    splits = record {
      finer = λ q r q_in r_in same. (same, (λ q_at. absurd (none-marked e q q_in q_at.0 q_at.1), λ r_at. absurd (none-marked e r r_in r_at.0 r_at.1)));
      same = λ q r q_in r_in same iff. same;
      numbers = λ q q_in. inl refl;
    };
    stays = λ q q_in ne. refl;
    done = λ q q_in is. none-marked e q q_in is;
    others = λ q q_in ne. (λ lt. lt, λ lt. lt);
  }

  -- a class whose states are all marked stays, and loses its marks
  pub cuts-all : (marked' : ℕ → ℕ) → marked c ≡ ends c → marked' c ≡ starts c → ((d : ℕ) → d ≢ c → marked' d ≡ marked d) →
      CutsAt n count c class class (λ q. place q < marked (class q)) (λ q. place q < marked' (class q))
  cuts-all marked' e here others = record {
    splits = record {
      finer = λ q r q_in r_in same. (
        same,
        (
          λ q_at. (sym same ∙ q_at.0, all-marked e r r_in (sym same ∙ q_at.0)),
          λ r_at. (same ∙ r_at.0, all-marked e q q_in (same ∙ r_at.0)),
        ),
      );
      same = λ q r q_in r_in same iff. same;
      numbers = λ q q_in. inl refl;
    };
    stays = λ q q_in ne. refl;
    done = λ q q_in is lt.
        let low = (lay.within q q_in).0 in
        let s = ap starts is in
        let m = ap marked' is in
        omega arith;
    others = λ q q_in ne. let m = others (class q) ne in (λ lt. omega arith, λ lt. omega arith);
  }

  pub layout-unmark : (marked' : ℕ → ℕ) → c < count → marked' c ≡ starts c → ((d : ℕ) → d ≢ c → marked' d ≡ marked d) → IsLayout n count order place class starts ends marked'
  layout-unmark marked' c_in here others = record {
    order_in = lay.order_in;
    place_in = lay.place_in;
    there = lay.there;
    back = lay.back;
    class_in = lay.class_in;
    within = lay.within;
    members = lay.members;
    some = lay.some;
    marks = λ d d_in. elim (cases_eq d c) [
      | inl e ↦ let s = ap starts e in let m = ap marked' e in let some = lay.some d d_in in (omega arith, omega arith)
      | inr ne ↦ let m = others d ne in let old = lay.marks d d_in in let low = old.0 in let high = old.1 in (omega arith, omega arith)
    ];
  }

-- a class with marked states and others is cut into two, and the marked ones or the others keep its number
module _ {n count c : ℕ} {class class' : ℕ → ℕ} {Marked Marked' : ℕ → Type 0} (x y : ℕ) (class_in : (q : ℕ) → q < n → class q < count) (c_in : c < count)
    (numbers : ((x ≡ count) × (y ≡ c)) ⊎ ((x ≡ c) × (y ≡ count)))
    (parts : (q : ℕ) → q < n → ((class q ≡ c) × Marked q × (class' q ≡ x)) ⊎ (((class q ≡ c) × (¬ Marked q) × (class' q ≡ y)) ⊎ ((class q ≢ c) × (class' q ≡ class q))))
    (done : (q : ℕ) → q < n → class q ≡ c → ¬ Marked' q) (others : (q : ℕ) → q < n → class q ≢ c → Marked' q ↔ Marked q) where
  apart : x ≢ y
  apart e = elim numbers [ inl first ↦ let a = first.0 in let b = first.1 in omega arith | inr second ↦ let a = second.0 in let b = second.1 in omega arith ]

  -- no state of another class has one of the two numbers
  outside : (q : ℕ) → q < n → class q ≢ c → (class' q ≡ class q) → (class' q ≢ x) × (class' q ≢ y)
  outside q q_in ne stays =
      let lt = class_in q q_in in
      elim numbers [
        | inl first ↦ (λ e. let a = first.0 in omega arith, λ e. let b = first.1 in ne (sym stays ∙ e ∙ b))
        | inr second ↦ (λ e. ne (sym stays ∙ e ∙ second.0), λ e. let b = second.1 in omega arith)
      ]

  pub cuts-parts : CutsAt n count c class class' Marked Marked'
  cuts-parts = record {
    splits = record {
      finer = λ q r q_in r_in e. elim (parts q q_in) [
        | inl q_one ↦ elim (parts r r_in) [
          | inl r_one ↦ (q_one.0 ∙ sym r_one.0, (λ at. (r_one.0, r_one.1), λ at. (q_one.0, q_one.1)))
          | inr rest ↦ elim rest [
            | inl r_two ↦ absurd (apart (sym q_one.2 ∙ e ∙ r_two.2))
            | inr r_out ↦ absurd ((outside r r_in r_out.0 r_out.1).0 (sym e ∙ q_one.2))
          ]
        ]
        | inr q_rest ↦ elim q_rest [
          | inl q_two ↦ elim (parts r r_in) [
            | inl r_one ↦ absurd (apart (sym r_one.2 ∙ sym e ∙ q_two.2))
            | inr rest ↦ elim rest [
              | inl r_two ↦ (q_two.0 ∙ sym r_two.0, (λ at. absurd (q_two.1 at.1), λ at. absurd (r_two.1 at.1)))
              | inr r_out ↦ absurd ((outside r r_in r_out.0 r_out.1).1 (sym e ∙ q_two.2))
            ]
          ]
          | inr q_out ↦ elim (parts r r_in) [
            | inl r_one ↦ absurd ((outside q q_in q_out.0 q_out.1).0 (e ∙ r_one.2))
            | inr rest ↦ elim rest [
              | inl r_two ↦ absurd ((outside q q_in q_out.0 q_out.1).1 (e ∙ r_two.2))
              | inr r_out ↦ (sym q_out.1 ∙ e ∙ r_out.1, (λ at. absurd (q_out.0 at.0), λ at. absurd (r_out.0 at.0)))
            ]
          ]
        ]
      ];
      same = λ q r q_in r_in e iff. elim (parts q q_in) [
        | inl q_one ↦ elim (parts r r_in) [
          | inl r_one ↦ q_one.2 ∙ sym r_one.2
          | inr rest ↦ elim rest [
            | inl r_two ↦ absurd (r_two.1 (iff.0 (q_one.0, q_one.1)).1)
            | inr r_out ↦ absurd (r_out.0 (sym e ∙ q_one.0))
          ]
        ]
        | inr q_rest ↦ elim q_rest [
          | inl q_two ↦ elim (parts r r_in) [
            | inl r_one ↦ absurd (q_two.1 (iff.1 (r_one.0, r_one.1)).1)
            | inr rest ↦ elim rest [
              | inl r_two ↦ q_two.2 ∙ sym r_two.2
              | inr r_out ↦ absurd (r_out.0 (sym e ∙ q_two.0))
            ]
          ]
          | inr q_out ↦ elim (parts r r_in) [
            | inl r_one ↦ absurd (q_out.0 (e ∙ r_one.0))
            | inr rest ↦ elim rest [
              | inl r_two ↦ absurd (q_out.0 (e ∙ r_two.0))
              | inr r_out ↦ q_out.1 ∙ e ∙ sym r_out.1
            ]
          ]
        ]
      ];
      numbers = λ q q_in. elim (parts q q_in) [
        | inl one ↦ elim numbers [ inl first ↦ let a = first.0 in let is = one.2 in inr (omega arith) | inr second ↦ inl (one.2 ∙ second.0 ∙ sym one.0) ]
        | inr rest ↦ elim rest [
          | inl two ↦ elim numbers [ inl first ↦ inl (two.2 ∙ first.1 ∙ sym two.0) | inr second ↦ let b = second.1 in let is = two.2 in inr (omega arith) ]
          | inr out ↦ inl out.1
        ]
      ];
    };
    stays = λ q q_in ne. elim (parts q q_in) [
      | inl one ↦ absurd (ne one.0)
      | inr rest ↦ elim rest [ inl two ↦ absurd (ne two.0) | inr out ↦ out.1 ]
    ];
    done = done;
    others = others;
  }

-- the lists of a partition when class c is cut into the places from `low` to `high`, a new class, and the rest
module _ {n count : ℕ} {order place class starts ends marked : ℕ → ℕ} (lay : IsLayout n count order place class starts ends marked) (c : ℕ) (c_in : c < count) (low high rest_low rest_high : ℕ)
    (sides : ((low ≡ starts c) × (high ≡ marked c) × (rest_low ≡ marked c) × (rest_high ≡ ends c)) ⊎ ((low ≡ marked c) × (high ≡ ends c) × (rest_low ≡ starts c) × (rest_high ≡ marked c)))
    (some : starts c < marked c) (more : marked c < ends c) (class' starts' ends' marked' : ℕ → ℕ)
    (moved : (q : ℕ) → q < n → low ≤ place q → place q < high → class' q ≡ count) (stays : (q : ℕ) → q < n → (place q < low) ⊎ (high ≤ place q) → class' q ≡ class q)
    (new_start : starts' count ≡ low) (new_end : ends' count ≡ high) (new_mark : marked' count ≡ low) (old_start : starts' c ≡ rest_low) (old_end : ends' c ≡ rest_high) (old_mark : marked' c ≡ rest_low)
    (other_start : (d : ℕ) → d < count → d ≢ c → starts' d ≡ starts d) (other_end : (d : ℕ) → d < count → d ≢ c → ends' d ≡ ends d) (other_mark : (d : ℕ) → d < count → d ≢ c → marked' d ≡ marked d) where
  bounds : (starts c ≤ low) × (low < high) × (high ≤ ends c)
  bounds = elim sides [
    | inl first ↦ let a = first.0 in let b = first.1 in (omega arith, omega arith, omega arith)
    | inr second ↦ let a = second.0 in let b = second.1 in (omega arith, omega arith, omega arith)
  ]

  pub cut-layout : IsLayout n (count + 1) order place class' starts' ends' marked'
  cut-layout = layout-split lay c low high (count + 1) class' starts' ends' marked' c_in bounds.0 bounds.1 bounds.2 refl moved stays
      (elim sides [
        | inl first ↦ let a = first.0 in let b = first.1 in let d = first.2 in let e = first.3 in inl (omega arith, omega arith, omega arith, omega arith)
        | inr second ↦ let a = second.0 in let b = second.1 in let d = second.2 in let e = second.3 in inr (omega arith, omega arith, omega arith, omega arith)
      ])
      new_start new_end (λ d d_in ne. (other_start d d_in ne, other_end d d_in ne))
      (λ d d_in. elim (cases_eq d count) [
        | inl e ↦ let s = ap starts' e in let t = ap ends' e in let m = ap marked' e in let lt = bounds.1 in (omega arith, omega arith)
        | inr new_ne ↦ elim (cases_eq d c) [
          | inl e ↦
              let s = ap starts' e in
              let t = ap ends' e in
              let m = ap marked' e in
              elim sides [
                | inl first ↦ let a = first.2 in let b = first.3 in (omega arith, omega arith)
                | inr second ↦ let a = second.2 in let b = second.3 in (omega arith, omega arith)
              ]
          | inr ne ↦
              let d_old : d < count = omega arith in
              let s = other_start d d_old ne in
              let t = other_end d d_old ne in
              let m = other_mark d d_old ne in
              let old = lay.marks d d_old in
              let l = old.0 in
              let h = old.1 in
              (omega arith, omega arith)
        ]
      ])

  -- where a state of another class stands
  outside-places : (q : ℕ) → q < n → class q ≢ c → (place q < low) ⊎ (high ≤ place q)
  outside-places q q_in ne = elim (cases_lt (place q) low) [
    | inl below ↦ inl below
    | inr from ↦ elim (cases_lt (place q) high) [
      | inr past ↦ inr past
      | inl inside ↦
          let l = bounds.0 in
          let h = bounds.2 in
          let member = lay.members c (place q) c_in (omega arith) (omega arith) in
          absurd (ne (sym (ap class (lay.there q q_in)) ∙ member.1))
    ]
  ]

  cut-done : (q : ℕ) → q < n → class q ≡ c → ¬ (place q < marked' (class' q))
  cut-done q q_in is lt =
      let within = cut-layout.within q q_in in
      let from = within.0 in
      let no_mark : (d : ℕ) → class' q ≡ d → marked' d ≡ starts' d → ⊥ = λ d e same. let s = ap starts' e in let m = ap marked' e in omega arith in
      elim (cases_lt (place q) low) [
        | inl below ↦ no_mark c (stays q q_in (inl below) ∙ is) (old_mark ∙ sym old_start)
        | inr above ↦ elim (cases_lt (place q) high) [
          | inl inside ↦ no_mark count (moved q q_in above inside) (new_mark ∙ sym new_start)
          | inr past ↦ no_mark c (stays q q_in (inr past) ∙ is) (old_mark ∙ sym old_start)
        ]
      ]

  cut-others : (q : ℕ) → q < n → class q ≢ c → (place q < marked' (class' q)) ↔ (place q < marked (class q))
  cut-others q q_in ne =
      let kept = stays q q_in (outside-places q q_in ne) in
      let m : marked' (class' q) ≡ marked (class q) = ap marked' kept ∙ other_mark (class q) (lay.class_in q q_in) ne in
      (λ lt. omega arith, λ lt. omega arith)

  pub cut-cuts : CutsAt n count c class class' (λ q. place q < marked (class q)) (λ q. place q < marked' (class' q))
  cut-cuts = elim sides [
    | inl first ↦ cuts-parts count c lay.class_in c_in (inl (refl, refl))
        (λ q q_in. elim (cases_eq (class q) c) [
          | inr ne ↦ inr (inr (ne, stays q q_in (outside-places q q_in ne)))
          | inl is ↦
              let a = first.0 in
              let b = first.1 in
              let m = ap marked is in
              let s = ap starts is in
              let from = (lay.within q q_in).0 in
              elim (cases_lt (place q) (marked c)) [
                | inl lt ↦ inl (is, omega arith, moved q q_in (omega arith) (omega arith))
                | inr ge ↦ inr (inl (is, λ lt. omega arith, stays q q_in (inr (omega arith)) ∙ is))
              ]
        ])
        cut-done cut-others
    | inr second ↦ cuts-parts c count lay.class_in c_in (inr (refl, refl))
        (λ q q_in. elim (cases_eq (class q) c) [
          | inr ne ↦ inr (inr (ne, stays q q_in (outside-places q q_in ne)))
          | inl is ↦
              let a = second.0 in
              let b = second.1 in
              let m = ap marked is in
              let t = ap ends is in
              let to = (lay.within q q_in).1 in
              elim (cases_lt (place q) (marked c)) [
                | inl lt ↦ inl (is, omega arith, stays q q_in (inl (omega arith)) ∙ is)
                | inr ge ↦ inr (inl (is, λ lt. omega arith, moved q q_in (omega arith) (omega arith)))
              ]
        ])
        cut-done cut-others
  ]

-- a list with one more item and another item at k
module _ (xs ys : List ℕ) (x k y n : ℕ) (size : length xs ≡ n) (longer : ys ≡ xs ++ x ∷ []) (k_in : k < n) where
  ys_long : length ys ≡ n + 1
  ys_long = let e = ap length longer ∙ length_push xs x in omega arith

  pub changed-len : length (set ys k y) ≡ n + 1
  changed-len = length-set ys k y ∙ ys_long

  pub changed-last : get_or (set ys k y) n 0 ≡ x
  changed-last = get_or-set_other ys k n y 0 (λ e. omega arith) ∙ ap (λ (zs : List ℕ). get_or zs n 0) longer ∙ get_or_push xs x 0 n size

  pub changed-here : get_or (set ys k y) k 0 ≡ y
  changed-here = let long = ys_long in get_or-set_same ys k y 0 (omega arith)

  pub changed-others : (d : ℕ) → d < n → d ≢ k → get_or (set ys k y) d 0 ≡ get_or xs d 0
  changed-others d d_in ne = get_or-set_other ys k d y 0 ne ∙ ap (λ (zs : List ℕ). get_or zs d 0) longer ∙ get_or_append_left xs (x ∷ []) 0 d (omega arith)

-- both sides of a cut
pub sides-of : (start cut end s m e : ℕ) (new rest : ℕ × ℕ) → s ≡ start → m ≡ cut → e ≡ end → ((new ≡ (start, cut)) × (rest ≡ (cut, end))) ⊎ ((new ≡ (cut, end)) × (rest ≡ (start, cut))) →
    ((new.0 ≡ s) × (new.1 ≡ m) × (rest.0 ≡ m) × (rest.1 ≡ e)) ⊎ ((new.0 ≡ m) × (new.1 ≡ e) × (rest.0 ≡ s) × (rest.1 ≡ m))
sides-of start cut end s m e new rest s_is m_is e_is sides =
    let left : (p q : ℕ × ℕ) → p ≡ q → p.0 ≡ q.0 = λ p q same. ap (λ (x : ℕ × ℕ). x.0) same in
    let right : (p q : ℕ × ℕ) → p ≡ q → p.1 ≡ q.1 = λ p q same. ap (λ (x : ℕ × ℕ). x.1) same in
    elim sides [
      | inl first ↦ inl (left new (start, cut) first.0 ∙ sym s_is, right new (start, cut) first.0 ∙ sym m_is, left rest (cut, end) first.1 ∙ sym m_is, right rest (cut, end) first.1 ∙ sym e_is)
      | inr second ↦ inr (left new (cut, end) second.0 ∙ sym m_is, right new (cut, end) second.0 ∙ sym e_is, left rest (start, cut) second.1 ∙ sym s_is, right rest (start, cut) second.1 ∙ sym m_is)
    ]

-- the places of a class are places of states
pub ends-within : {n count : ℕ} {order place class starts ends marked : ℕ → ℕ} → IsLayout n count order place class starts ends marked → (c : ℕ) → c < count → ends c ≤ n
ends-within {n} {count} {order} {place} {class} {starts} {ends} {marked} lay c c_in =
    let some = lay.some c c_in in
    let last = lay.members c (ends c - 1) c_in (omega arith) (omega arith) in
    let lt = last.0 in
    omega arith
