-- Lists of first members of one set, and the number of letters of the first wide one.
use Rattle.std.proofs.Common.{◌≡◌, ◌⊎◌, inl, inr, ℕ, zero, suc, ◌<◌, ◌≤◌, List, [], ◌∷◌, length, take, refl, ap, sym, subst, ◌∙◌, arith}
use Rattle.std.specs.List.{AllByRecursion}
use Rattle.std.proofs.lemmas.Bool.{cases_lt}
use Rattle.pt_base.specs.Elements.{ContainsByRecursion, PairsByRecursion}
use Rattle.pt_sets.specs.Words.{Vector}
use Rattle.pt_sets.specs.Sets.{VectorSet}
use Rattle.pt_sets.specs.Shortlex.{ComesBefore, IsFirstMembers}
use Rattle.pt_sets.proofs.SameValues.{shortest-unique}
use Rattle.pt_sets.proofs.Ordering.{first-unique}
use Rattle.pt_query.specs.Queries.{HasLetters, IsNarrow, IsFirstWide, IsListCause}
use Rattle.pt_query.specs.declared.fault.WitnessFault.TheVariants.{Wide}

-- a vector has one number of letters
pub one_number : (z : Vector) (m n : ℕ) → HasLetters m z → HasLetters n z → m ≡ n
one_number z m n (v, is_v, long_v) (w, is_w, long_w) = sym long_v ∙ ap (λ (u : List ℕ). length u) (shortest-unique z v w is_v is_w) ∙ long_w

-- a narrow vector is not wide
pub narrow_not_wide : (z : Vector) (n : ℕ) → IsNarrow z → HasLetters n z → 128 < n → ⊥
narrow_not_wide z n (m, has, le) has' over = omega (arith, one_number z m n has has')

-- ---- the first j of the first k members are the first j

all_front : {Z : Type 0} (P : Z → Type 0) (j : ℕ) (zs : List Z) → AllByRecursion P zs → AllByRecursion P (take j zs)
all_front P zero zs all = tt
all_front P (suc j) [] all = tt
all_front P (suc j) (z ∷ zs) all = (all.0, all_front P j zs all.1)

pairs_front : {Z : Type 0} (R : Z → Z → Type 0) (j : ℕ) (zs : List Z) → PairsByRecursion R zs → PairsByRecursion R (take j zs)
pairs_front R zero zs pairs = tt
pairs_front R (suc j) [] pairs = tt
pairs_front R (suc j) (z ∷ zs) pairs = (all_front (R z) j zs pairs.0, pairs_front R j zs pairs.1)

all_at : {Z : Type 0} (P : Z → Type 0) (y : Z) (zs : List Z) → AllByRecursion P zs → ContainsByRecursion y zs → P y
all_at P y [] all there = absurd there
all_at P y (z ∷ zs) all (inl same) = subst P (sym same) all.0
all_at P y (z ∷ zs) all (inr there) = all_at P y zs all.1 there

front_within : {Z : Type 0} (j : ℕ) (zs : List Z) → length (take j zs) ≤ j
front_within zero zs = omega arith
front_within (suc j) [] = omega arith
front_within (suc j) (z ∷ zs) = omega (arith, front_within j zs)

front_whole : {Z : Type 0} (j : ℕ) (zs : List Z) → j ≤ length zs → length (take j zs) ≡ j
front_whole zero zs le = refl
front_whole (suc j) [] le = absurd (omega arith)
front_whole (suc j) (z ∷ zs) le = ap suc (front_whole j zs (omega arith))

-- an element of an ordered list is in its front, or behind the whole front
in_front : (y : Vector) (j : ℕ) (zs : List Vector) → PairsByRecursion ComesBefore zs → ContainsByRecursion y zs →
    ContainsByRecursion y (take j zs) ⊎ ((length (take j zs) ≡ j) × AllByRecursion (λ z. ComesBefore z y) (take j zs))
in_front y zero zs order there = inr (refl, tt)
in_front y (suc j) [] order there = absurd there
in_front y (suc j) (z ∷ zs) order (inl same) = inl (inl same)
in_front y (suc j) (z ∷ zs) order (inr there) =
    elim (in_front y j zs order.1 there) [
      | inl here ↦ inl (inr here)
      | inr (count, all) ↦ inr (ap suc count, (all_at (ComesBefore z) y zs order.0 there, all))
    ]

first_front : (t : ℕ) (X : VectorSet) (j k : ℕ) (zs : List Vector) → j ≤ k → IsFirstMembers t X k zs → IsFirstMembers t X j (take j zs)
first_front t X j k zs le first = record {
  count = front_within j zs;
  members = all_front (λ z. (length z ≡ t) × X z) j zs first.members;
  order = pairs_front ComesBefore j zs first.order;
  others = λ y len in_X. elim (first.others y len in_X) [
    | inl there ↦ in_front y j zs first.order there
    | inr (count, all) ↦ inr (front_whole j zs (omega (arith, le, count)), all_front (λ z. ComesBefore z y) j zs all)
  ];
}

-- ---- the first wide one

wide_in_whole : (n j : ℕ) (zs : List Vector) → IsFirstWide n (take j zs) → IsFirstWide n zs
wide_in_whole n zero zs wide = absurd wide
wide_in_whole n (suc j) [] wide = absurd wide
wide_in_whole n (suc j) (z ∷ zs) (inl here) = inl here
wide_in_whole n (suc j) (z ∷ zs) (inr (narrow, later)) = inr (narrow, wide_in_whole n j zs later)

one_wide : (m n : ℕ) (zs : List Vector) → IsFirstWide m zs → IsFirstWide n zs → m ≡ n
one_wide m n [] first second = absurd first
one_wide m n (z ∷ zs) (inl (has, over)) (inl (has', over')) = one_number z m n has has'
one_wide m n (z ∷ zs) (inl (has, over)) (inr (narrow, later)) = absurd (narrow_not_wide z m narrow has over)
one_wide m n (z ∷ zs) (inr (narrow, later)) (inl (has, over)) = absurd (narrow_not_wide z n narrow has over)
one_wide m n (z ∷ zs) (inr (narrow, later)) (inr (narrow', later')) = one_wide m n zs later later'

none_wide : (n : ℕ) (zs : List Vector) → AllByRecursion IsNarrow zs → IsFirstWide n zs → ⊥
none_wide n [] all wide = wide
none_wide n (z ∷ zs) all (inl (has, over)) = narrow_not_wide z n all.0 has over
none_wide n (z ∷ zs) all (inr (narrow, later)) = none_wide n zs all.1 later

-- the first wide one of the first j members is that of the first k
wide_in_more : (t : ℕ) (X : VectorSet) (j k n : ℕ) (ys zs : List Vector) → j ≤ k → IsFirstMembers t X j ys → IsFirstMembers t X k zs → IsFirstWide n ys → IsFirstWide n zs
wide_in_more t X j k n ys zs le is_y is_z wide =
    wide_in_whole n j zs (subst (λ (xs : List Vector). IsFirstWide n xs) (first-unique t X j ys (take j zs) is_y (first_front t X j k zs le is_z)) wide)

-- a list is refused with one number of letters
pub one_cause : (t k : ℕ) (X : VectorSet) (m n : ℕ) → IsListCause t X k (Wide m) → IsListCause t X k (Wide n) → m ≡ n
one_cause t k X m n (i, le_i, (ys, is_y, wide_y)) (j, le_j, (zs, is_z, wide_z)) =
    elim (cases_lt i j) [
      | inl below ↦ one_wide m n zs (wide_in_more t X i j m ys zs (omega arith) is_y is_z wide_y) wide_z
      | inr le ↦ one_wide m n ys wide_y (wide_in_more t X j i n zs ys (omega arith) is_z is_y wide_z)
    ]

-- and not where its members are narrow
pub cause_excluded : (t k : ℕ) (X : VectorSet) (n : ℕ) (zs : List Vector) → IsFirstMembers t X k zs → AllByRecursion IsNarrow zs → IsListCause t X k (Wide n) → ⊥
cause_excluded t k X n zs is_z narrow (j, le, (ys, is_y, wide)) = none_wide n zs narrow (wide_in_more t X j k n ys zs le is_y is_z wide)
