-- Tracks of variables among increasing ones, and values that vectors give to them.
use Rattle.std.proofs.Common.{◌≡◌, ◌⊎◌, inl, inr, ℕ, suc, ◌<◌, true, false, ◌==◌, not, nat_lt, if◌then◌else◌, List, [], ◌∷◌, length, map, refl, ap, sym, subst, ◌∙◌, arith}
use Rattle.std.proofs.lemmas.Bool.Decides.{nat_tests}
use Rattle.std.specs.Prelude.{ℤ, pos, slice_index_or}
use Rattle.std.specs.List.{AllByRecursion}
use Rattle.pt_base.specs.Elements.{ContainsByRecursion, PairsByRecursion}
use Rattle.pt_sets.specs.Restricting.{IsTrackMap, selected}
use Rattle.pt_formula.specs.Forms.{IsIncreasing}
use Rattle.pt_formula.specs.Truth.{insert_var, union, without, valuation}
use Rattle.pt_formula.specs.Costs.{track_of}
use Rattle.pt_eval.specs.Parts.{tracks_of}

-- the component in the track of a variable is its value
track-value : (vs : List ℕ) (z : List ℤ) (u : ℕ) → length z ≡ length vs → slice_index_or z (track_of u vs) (pos 0) ≡ valuation vs z u
track-value [] [] u e = refl
track-value [] (x ∷ z) u e = absurd (omega arith)
track-value (v ∷ vs) [] u e = absurd (omega arith)
track-value (v ∷ vs) (x ∷ z) u e =
    let cases : (u ≡ v) ⊎ (¬ (u ≡ v)) = grind arith in
    elim cases [
      | inl same ↦
          let there : (v == u) ≡ true = grind (arith, nat_tests) in
          let back : (u == v) ≡ true = grind (arith, nat_tests) in
          ap (λ b. slice_index_or (x ∷ z) (if b then 0 else suc (track_of u vs)) (pos 0)) there ∙ sym (ap (λ b. if b then x else valuation vs z u) back)
      | inr other ↦
          let there : (v == u) ≡ false = grind (arith, nat_tests) in
          let back : (u == v) ≡ false = grind (arith, nat_tests) in
          ap (λ b. slice_index_or (x ∷ z) (if b then 0 else suc (track_of u vs)) (pos 0)) there ∙ track-value vs z u (omega (arith, e)) ∙ sym (ap (λ b. if b then x else valuation vs z u) back)
    ]

pub selected-values : (vs : List ℕ) (z : List ℤ) (us : List ℕ) → length z ≡ length vs → selected (tracks_of us vs) z ≡ map (valuation vs z) us
selected-values vs z [] e = refl
selected-values vs z (u ∷ us) e = ap (λ (x : ℤ). x ∷ selected (tracks_of us vs) z) (track-value vs z u e) ∙ ap (λ (xs : List ℤ). valuation vs z u ∷ xs) (selected-values vs z us e)

-- what holds of the members of a union holds of those of its parts
all-insert : (P : ℕ → Type 0) (v : ℕ) (us : List ℕ) → AllByRecursion P (insert_var v us) → P v × AllByRecursion P us
all-insert P v [] h = (h.0, tt)
all-insert P v (u ∷ us) h =
    let cases : (v < u) ⊎ ((v ≡ u) ⊎ (u < v)) = grind arith in
    elim cases [
      | inl lt ↦
          let test : nat_lt v u ≡ true = grind (arith, nat_tests) in
          let k : AllByRecursion P (v ∷ u ∷ us) = subst (λ b. AllByRecursion P (if b then v ∷ u ∷ us else if v == u then u ∷ us else u ∷ insert_var v us)) test h in
          (k.0, k.1)
      | inr more ↦ elim more [
        | inl same ↦
            let test : nat_lt v u ≡ false = grind (arith, nat_tests) in
            let equal : (v == u) ≡ true = grind (arith, nat_tests) in
            let k : AllByRecursion P (if v == u then u ∷ us else u ∷ insert_var v us) = subst (λ b. AllByRecursion P (if b then v ∷ u ∷ us else if v == u then u ∷ us else u ∷ insert_var v us)) test h in
            let l : AllByRecursion P (u ∷ us) = subst (λ b. AllByRecursion P (if b then u ∷ us else u ∷ insert_var v us)) equal k in
            (subst P (sym same) l.0, l)
        | inr lt ↦
            let test : nat_lt v u ≡ false = grind (arith, nat_tests) in
            let equal : (v == u) ≡ false = grind (arith, nat_tests) in
            let k : AllByRecursion P (if v == u then u ∷ us else u ∷ insert_var v us) = subst (λ b. AllByRecursion P (if b then v ∷ u ∷ us else if v == u then u ∷ us else u ∷ insert_var v us)) test h in
            let l : AllByRecursion P (u ∷ insert_var v us) = subst (λ b. AllByRecursion P (if b then u ∷ us else u ∷ insert_var v us)) equal k in
            let rest = all-insert P v us l.1 in
            (rest.0, (l.0, rest.1))
      ]
    ]

pub all-union : (P : ℕ → Type 0) (vs us : List ℕ) → AllByRecursion P (union vs us) → AllByRecursion P vs × AllByRecursion P us
all-union P [] us h = (tt, h)
all-union P (v ∷ vs) us h =
    let first = all-insert P v (union vs us) h in
    let rest = all-union P vs us first.1 in
    ((first.0, rest.0), rest.1)

pub track-here : (v u : ℕ) (us : List ℕ) → u ≡ v → track_of v (u ∷ us) ≡ 0
track-here v u us same = let test : (u == v) ≡ true = grind (arith, nat_tests) in ap (λ b. if b then 0 else suc (track_of v us)) test

pub track-later : (v u : ℕ) (us : List ℕ) → ¬ (u ≡ v) → track_of v (u ∷ us) ≡ suc (track_of v us)
track-later v u us other = let test : (u == v) ≡ false = grind (arith, nat_tests) in ap (λ b. if b then 0 else suc (track_of v us)) test

-- each of the variables has a track
longer : (u : ℕ) (us ws : List ℕ) → AllByRecursion (λ w. track_of w us < length us) ws → AllByRecursion (λ w. track_of w (u ∷ us) < suc (length us)) ws
longer u us [] h = tt
longer u us (w ∷ ws) h =
    let cases : (u ≡ w) ⊎ (¬ (u ≡ w)) = grind arith in (
      elim cases [
        | inl same ↦ let e = track-here w u us same in let lt : track_of w us < length us = h.0 in omega arith
        | inr other ↦ let e = track-later w u us other in let lt : track_of w us < length us = h.0 in omega arith
      ],
      longer u us ws h.1,
    )

pub tracks-inside : (us : List ℕ) → AllByRecursion (λ w. track_of w us < length us) us
tracks-inside [] = tt
tracks-inside (u ∷ us) = (let e = track-here u u us refl in omega arith, longer u us us (tracks-inside us))

-- what holds of all holds of one with a track
pub at-track : (P : ℕ → Type 0) (v : ℕ) (us : List ℕ) → track_of v us < length us → AllByRecursion P us → P v
at-track P v [] h all = absurd (omega arith)
at-track P v (u ∷ us) h all =
    let cases : (u ≡ v) ⊎ (¬ (u ≡ v)) = grind arith in
    elim cases [
      | inl same ↦ subst P same all.0
      | inr other ↦ let e = track-later v u us other in let lt : track_of v us < length us = omega (arith, h, e) in at-track P v us lt all.1
    ]

-- tracks increase with the variables
pub track-order : (v w : ℕ) (us : List ℕ) → IsIncreasing us → v < w → track_of v us < length us → track_of w us < length us → track_of v us < track_of w us
track-order v w [] up lt in_v in_w = absurd (omega arith)
track-order v w (u ∷ us) up lt in_v in_w =
    let cases : (u ≡ v) ⊎ (¬ (u ≡ v)) = grind arith in
    elim cases [
      | inl same ↦
          let other : ¬ (u ≡ w) = λ (e : u ≡ w). omega arith in
          let e = track-here v u us same in
          let d = track-later w u us other in
          omega (arith, e, d)
      | inr apart ↦
          let e = track-later v u us apart in
          let inside : track_of v us < length us = omega (arith, in_v, e) in
          let below : u < v = at-track (λ x. u < x) v us inside up.0 in
          let other : ¬ (u ≡ w) = λ (k : u ≡ w). omega arith in
          let d = track-later w u us other in
          let within : track_of w us < length us = omega (arith, in_w, d) in
          let rest = track-order v w us up.1 lt inside within in
          omega (arith, e, d, rest)
    ]

above : (v : ℕ) (us vs : List ℕ) → IsIncreasing us → track_of v us < length us → AllByRecursion (λ w. v < w) vs → AllByRecursion (λ w. track_of w us < length us) vs → AllByRecursion (λ j. track_of v us < j) (tracks_of vs us)
above v us [] up in_v lt inside = tt
above v us (w ∷ vs) up in_v lt inside = (track-order v w us up lt.0 in_v inside.0, above v us vs up in_v lt.1 inside.1)

map-inside : (us vs : List ℕ) → AllByRecursion (λ w. track_of w us < length us) vs → AllByRecursion (λ i. i < length us) (tracks_of vs us)
map-inside us [] inside = tt
map-inside us (v ∷ vs) inside = (inside.0, map-inside us vs inside.1)

map-order : (us vs : List ℕ) → IsIncreasing us → IsIncreasing vs → AllByRecursion (λ w. track_of w us < length us) vs → PairsByRecursion (λ i j. i < j) (tracks_of vs us)
map-order us [] up order inside = tt
map-order us (v ∷ vs) up order inside = (above v us vs up inside.0 order.0 inside.1, map-order us vs up order.1 inside.1)

map-length : (us vs : List ℕ) → length (tracks_of vs us) ≡ length vs
map-length us [] = refl
map-length us (v ∷ vs) = ap suc (map-length us vs)

pub is-track_map : (inner outer : List ℕ) → IsIncreasing inner → IsIncreasing outer → AllByRecursion (λ w. track_of w outer < length outer) inner → IsTrackMap (length inner) (length outer) (tracks_of inner outer)
is-track_map inner outer up order inside = record {
  count = map-length outer inner;
  within = map-inside outer inner inside;
  increasing = map-order outer inner order up inside;
}

-- each of some variables that are among others has a track
contained-track : (v : ℕ) (us : List ℕ) → ContainsByRecursion v us → track_of v us < length us
contained-track v us found = at us us (tracks-inside us) found
  where
    at : (all ws : List ℕ) → AllByRecursion (λ w. track_of w all < length all) ws → ContainsByRecursion v ws → track_of v all < length all
    at all [] inside found = absurd found
    at all (w ∷ ws) inside (inl here) = subst (λ x. track_of x all < length all) (sym here) inside.0
    at all (w ∷ ws) inside (inr there) = at all ws inside.1 there

contained-tracks : (us vs : List ℕ) → AllByRecursion (λ v. ContainsByRecursion v us) vs → AllByRecursion (λ w. track_of w us < length us) vs
contained-tracks us [] h = tt
contained-tracks us (v ∷ vs) h = (contained-track v us h.0, contained-tracks us vs h.1)

pub tracks-are-maps : (inner outer : List ℕ) → IsIncreasing inner → IsIncreasing outer → AllByRecursion (λ v. ContainsByRecursion v outer) inner → IsTrackMap (length inner) (length outer) (tracks_of inner outer)
tracks-are-maps inner outer up order among = is-track_map inner outer up order (contained-tracks outer inner among)

-- ---- a variable that is left out

without-here : (v u : ℕ) (us : List ℕ) → u ≡ v → without v (u ∷ us) ≡ without v us
without-here v u us same = let test : (v == u) ≡ true = grind (arith, nat_tests) in ap (λ b. if not b then u ∷ without v us else without v us) test

pub without-later : (v u : ℕ) (us : List ℕ) → ¬ (u ≡ v) → without v (u ∷ us) ≡ u ∷ without v us
without-later v u us other = let test : (v == u) ≡ false = grind (arith, nat_tests) in ap (λ b. if not b then u ∷ without v us else without v us) test

pub without-none : (v : ℕ) (us : List ℕ) → AllByRecursion (λ u. ¬ (u ≡ v)) us → without v us ≡ us
without-none v [] h = refl
without-none v (u ∷ us) h = without-later v u us h.0 ∙ ap (λ (ws : List ℕ). u ∷ ws) (without-none v us h.1)

greater-other : (v : ℕ) (us : List ℕ) → AllByRecursion (λ u. v < u) us → AllByRecursion (λ u. ¬ (u ≡ v)) us
greater-other v [] h = tt
greater-other v (u ∷ us) h = ((λ e. let lt : v < u = h.0 in omega arith), greater-other v us h.1)

-- no variable has the track of one that is not there
pub no-track : (v : ℕ) (us : List ℕ) → track_of v us ≡ length us → AllByRecursion (λ u. ¬ (u ≡ v)) us
no-track v [] h = tt
no-track v (u ∷ us) h =
    let cases : (u ≡ v) ⊎ (¬ (u ≡ v)) = grind arith in
    elim cases [
      | inl same ↦ let e = track-here v u us same in absurd (omega (arith, h, e))
      | inr other ↦ let e = track-later v u us other in (other, no-track v us (omega (arith, h, e)))
    ]

-- without the first variable the later ones are left
pub without-first : (v u : ℕ) (us : List ℕ) → IsIncreasing (u ∷ us) → u ≡ v → without v (u ∷ us) ≡ us
without-first v u us up same =
    without-here v u us same ∙ without-none v us (greater-other v us (subst (λ x. AllByRecursion (λ w. x < w) us) same up.0))

pub length-without : (v : ℕ) (us : List ℕ) → IsIncreasing us → track_of v us < length us → suc (length (without v us)) ≡ length us
length-without v [] up h = absurd (omega arith)
length-without v (u ∷ us) up h =
    let cases : (u ≡ v) ⊎ (¬ (u ≡ v)) = grind arith in
    elim cases [
      | inl same ↦ ap (λ (ws : List ℕ). suc (length ws)) (without-first v u us up same)
      | inr other ↦
          let e = track-later v u us other in
          let inside : track_of v us < length us = omega (arith, h, e) in
          ap (λ (ws : List ℕ). suc (length ws)) (without-later v u us other) ∙ ap suc (length-without v us up.1 inside)
    ]
