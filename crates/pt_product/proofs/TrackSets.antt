-- A map of tracks is the set of its tracks.
use Rattle.std.proofs.Common.{◌≡◌, ◌⊎◌, inl, inr, ℕ, zero, suc, ◌+◌, ◌-◌, ◌*◌, ◌/◌, ◌%◌, ◌^◌, ◌<◌, ◌≤◌, List, [], ◌∷◌, lit<, refl, ap, sym, ◌∙◌, subst, arith}
use Rattle.std.specs.List.{AllByRecursion, fold}
use Rattle.std.proofs.Math.Nat.{pow-le-pow_right}
use Rattle.pt_base.specs.Elements.{PairsByRecursion}
use Rattle.pt_sets.specs.Restricting.{IsTrackMap}
use Rattle.pt_sets.proofs.Restricted.{All-map}
use Rattle.pt_product.specs.TrackSets.{track_set, with_track, tracks_from, tracks_in}

-- the set of the tracks of a map, with the bit of track i lowest
abbrev set_from : ℕ → List ℕ → ℕ
set_from i [] = 0
set_from i (j ∷ m) = 2 ^ (j - i) + set_from i m

from_first : (s : ℕ) (m : List ℕ) → fold (λ set i. set + 2 ^ i) s m ≡ s + set_from 0 m
from_first s [] = omega arith
from_first s (j ∷ m) =
    let same : j - 0 ≡ j = omega arith in
    let power : 2 ^ (j - 0) ≡ 2 ^ j = ap (λ n. 2 ^ n) same in
    let rest = from_first (s + 2 ^ j) m in
    omega (arith, power, rest)

double : (n : ℕ) → 2 ^ suc n ≡ 2 * 2 ^ n
double n = grind arith

-- where track i is absent its bit is 0
halved : (i : ℕ) (m : List ℕ) → AllByRecursion (λ j. i < j) m → set_from i m ≡ 2 * set_from (suc i) m
halved i [] above = refl
halved i (j ∷ m) above =
    let below : i < j = above.0 in
    let step : j - i ≡ suc (j - suc i) = omega (arith, below) in
    let power : 2 ^ (j - i) ≡ 2 * 2 ^ (j - suc i) = ap (λ n. 2 ^ n) step ∙ double (j - suc i) in
    let rest = halved i m above.1 in
    omega (arith, power, rest)

-- one step over a track whose bit is set, and over one whose bit is not
set_bit : (n i s e : ℕ) → s ≡ 1 + 2 * e → tracks_from (suc n) i s ≡ i ∷ tracks_from n (suc i) e
set_bit n i s e is =
    let low : s % 2 ≡ 1 = omega (arith, is) in
    let half : s / 2 ≡ e = omega (arith, is) in
    ap (λ b. with_track b i (tracks_from n (suc i) (s / 2))) low ∙ ap (λ k. i ∷ tracks_from n (suc i) k) half

clear_bit : (n i s e : ℕ) → s ≡ 2 * e → tracks_from (suc n) i s ≡ tracks_from n (suc i) e
clear_bit n i s e is =
    let low : s % 2 ≡ 0 = omega (arith, is) in
    let half : s / 2 ≡ e = omega (arith, is) in
    ap (λ b. with_track b i (tracks_from n (suc i) (s / 2))) low ∙ ap (tracks_from n (suc i)) half

first_or_later : (i j : ℕ) → i ≤ j → (i ≡ j) ⊎ (i < j)
first_or_later zero zero h = inl refl
first_or_later zero (suc j) h = inr (omega arith)
first_or_later (suc i) zero h = absurd (omega (arith, h))
first_or_later (suc i) (suc j) h = elim (first_or_later i j (omega (arith, h))) [ inl same ↦ inl (ap suc same) | inr less ↦ inr (omega (arith, less)) ]

-- the tracks of a set of tracks are those of its map
back : (n i : ℕ) (m : List ℕ) → PairsByRecursion (λ j k. j < k) m → AllByRecursion (λ j. i ≤ j) m → AllByRecursion (λ j. j < i + n) m → tracks_from n i (set_from i m) ≡ m
back zero i [] increasing from below = refl
back zero i (j ∷ m) increasing from below =
    let low : i ≤ j = from.0 in
    let high : j < i + 0 = below.0 in
    absurd (omega (arith, low, high))
back (suc n) i [] increasing from below = clear_bit n i 0 0 refl ∙ back n (suc i) [] tt tt tt
back (suc n) i (j ∷ m) increasing from below = elim (first_or_later i j from.0) [
  | inl same ↦
      let later : AllByRecursion (λ k. i < k) m = subst (λ x. AllByRecursion (λ k. x < k) m) (sym same) increasing.0 in
      let none : j - i ≡ 0 = omega (arith, same) in
      let power : 2 ^ (j - i) ≡ 1 = ap (λ n. 2 ^ n) none in
      let rest = halved i m later in
      let value : set_from i (j ∷ m) ≡ 1 + 2 * set_from (suc i) m = omega (arith, power, rest) in
      let further : AllByRecursion (λ k. k < suc i + n) m = All-map (λ k. k < i + suc n) (λ k. k < suc i + n) (λ k h. omega (arith, h)) m below.1 in
      let behind : AllByRecursion (λ k. suc i ≤ k) m = All-map (λ k. i < k) (λ k. suc i ≤ k) (λ k h. omega (arith, h)) m later in
      set_bit n i (set_from i (j ∷ m)) (set_from (suc i) m) value
      ∙ ap (λ k. k ∷ tracks_from n (suc i) (set_from (suc i) m)) same
      ∙ ap (λ ks. j ∷ ks) (back n (suc i) m increasing.1 behind further)
  | inr less ↦
      let later : AllByRecursion (λ k. i < k) (j ∷ m) = (less, All-map (λ k. j < k) (λ k. i < k) (λ k h. omega (arith, h, less)) m increasing.0) in
      let further : AllByRecursion (λ k. k < suc i + n) (j ∷ m) = All-map (λ k. k < i + suc n) (λ k. k < suc i + n) (λ k h. omega (arith, h)) (j ∷ m) below in
      let behind : AllByRecursion (λ k. suc i ≤ k) (j ∷ m) = All-map (λ k. i < k) (λ k. suc i ≤ k) (λ k h. omega (arith, h)) (j ∷ m) later in
      clear_bit n i (set_from i (j ∷ m)) (set_from (suc i) (j ∷ m)) (halved i (j ∷ m) later)
      ∙ back n (suc i) (j ∷ m) increasing behind further
]

zero_left : (n : ℕ) → 0 + n ≡ n
zero_left n = omega arith

at_least_zero : (m : List ℕ) → AllByRecursion (λ j. 0 ≤ j) m
at_least_zero [] = tt
at_least_zero (j ∷ m) = (omega arith, at_least_zero m)

-- so a map is that of the set of its tracks
pub tracks_in-track_set : (k t : ℕ) (m : List ℕ) → t ≤ 10 → IsTrackMap k t m → tracks_in (track_set m) ≡ m
unfolding tracks_in
tracks_in-track_set k t m few fits =
    let sum : track_set m ≡ set_from 0 m = from_first 0 m ∙ zero_left (set_from 0 m) in
    ap (tracks_from 10 0) sum
    ∙ back 10 0 m fits.increasing (at_least_zero m) (All-map (λ j. j < t) (λ j. j < 0 + 10) (λ j h. omega (arith, h, few)) m fits.within)

-- the bit of a track is small
pub power_bound : (n : ℕ) → n < 10 → 1 * 2 ^ n % 65536 ≤ 512
power_bound n h =
    let short : n ≤ 9 = omega (arith, h) in
    let small : 2 ^ n ≤ 2 ^ 9 = pow-le-pow_right (lit< tt) short in
    let bound : 2 ^ n ≤ 512 = small in
    omega (arith, bound)
