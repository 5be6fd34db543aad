-- Sets of numbers as bits.
use Rattle.std.proofs.Common.{◌≡◌, ◌≢◌, ◌⊎◌, ◌↔◌, inl, inr, ℕ, ◌+◌, ◌*◌, ◌/◌, ◌%◌, ◌^◌, ◌<◌, ◌≤◌, List, [], ◌∷◌, ◌++◌, length, get_or, set, replicate, get_or-set_other, get_or-set_same, lit<, Result, Ok, Err, refl, ap, sym, ◌∙◌, subst, arith}
use Rattle.std.specs.Prelude.{IfOk}
use Rattle.std.specs.Int.{bit_at, bit_not, div_ceil, w64, trailing_zeros}
use Rattle.std.specs.Int.RustNames.{bit_and, bit_or}
use Rattle.std.specs.List.{AllByRecursion}
use Rattle.std.proofs.lemmas.Bool.{cases_lt, cases_eq}
use Rattle.std.proofs.lemmas.Grind.{common_steps, div_ceil_times}
use Rattle.std.proofs.lemmas.List.{get_or-replicate, length-replicate}
use Rattle.std.proofs.lemmas.Nat.{and_le_l}
use Rattle.std.proofs.lemmas.Nat.Bits.{bit_at-zero, bit_at-trailing_zeros, bit_at_set_same, bit_at_set_other, bit_at_clear_same, bit_at_clear_other}
use Rattle.pt_base.specs.Elements.{ContainsByRecursion, PairsByRecursion}
use Rattle.pt_project.specs.Bits.{bit_of, HasBit, IsClear}
use Rattle.pt_project.proofs.Orders.{in-append-last}

no-bit : (count i : ℕ) → ◌≡◌ {A = ℕ} (get_or (replicate count 0) i 0) 0
no-bit count i = elim (cases_lt i count) [ inl before ↦ get_or-replicate count i 0 0 before | inr behind ↦ grind (arith, common_steps, length-replicate {A = ℕ} count 0) ]

-- words of zeros
pub zeros-clear : (n count : ℕ) (words : List ℕ) → n ≤ 65536 → count ≡ div_ceil n 64 → words ≡ replicate count 0 → IsClear n words
unfolding bit_of
zeros-clear n count words small is zeros =
    let bounds = div_ceil_times n 64 (lit< tt) in
    let size : length words ≡ count = ap length zeros ∙ length-replicate count 0 in
    record {
      room = omega (arith, bounds, size, is);
      few = omega (arith, bounds, size, is);
      none = λ x. ap (λ (n : ℕ). bit_at n (x % 64)) (ap (λ (ws : List ℕ). get_or ws (x / 64) 0) zeros ∙ no-bit count (x / 64)) ∙ bit_at-zero (x % 64);
    }

-- what follows from a value follows where there is one
pub if-ok : {V E : Type 0} (r : Result V E) (P Q : V → Type 0) → ((v : V) → P v → Q v) → IfOk r P → IfOk r Q
if-ok (Ok v) P Q f h = f v h
if-ok (Err e) P Q f h = tt

-- a bit that is set
pub bit-set : (words : List ℕ) (x v : ℕ) → x / 64 < length words → v ≡ bit_or (get_or words (x / 64) 0) (1 * 2 ^ (x % 64) % 2 ^ 64) → HasBit (set words (x / 64) v) x
unfolding bit_of
bit-set words x v inside is =
    ap (λ (n : ℕ). bit_at n (x % 64)) (get_or-set_same words (x / 64) v 0 inside ∙ is) ∙ bit_at_set_same w64 (get_or words (x / 64) 0) (x % 64) (omega arith)

-- and the other bits
pub bit-other : (words : List ℕ) (x v : ℕ) → x / 64 < length words → v ≡ bit_or (get_or words (x / 64) 0) (1 * 2 ^ (x % 64) % 2 ^ 64) → (y : ℕ) → y ≢ x → bit_of (set words (x / 64) v) y ≡ bit_of words y
unfolding bit_of
bit-other words x v inside is y other =
    elim (cases_eq (x / 64) (y / 64)) [
      | inl same ↦
          let word : get_or (set words (x / 64) v) (y / 64) 0 ≡ v = ap (λ (k : ℕ). get_or (set words (x / 64) v) k 0) (sym same) ∙ get_or-set_same words (x / 64) v 0 inside in
          let apart : y % 64 ≢ x % 64 = λ e. other (omega arith) in
          ap (λ (n : ℕ). bit_at n (y % 64)) (word ∙ is)
          ∙ bit_at_set_other w64 (get_or words (x / 64) 0) (x % 64) (omega arith) (y % 64) apart
          ∙ ap (λ (k : ℕ). bit_at (get_or words k 0) (y % 64)) same
      | inr far ↦ ap (λ (n : ℕ). bit_at n (y % 64)) (get_or-set_other words (x / 64) (y / 64) v 0 (λ e. far (sym e)))
    ]

-- a word that is cleared, and the other words
pub bit-cleared : (words : List ℕ) (k x : ℕ) → x / 64 ≡ k → k < length words → bit_of (set words k 0) x ≡ 0
unfolding bit_of
bit-cleared words k x is inside =
    ap (λ (n : ℕ). bit_at n (x % 64)) (ap (λ (j : ℕ). get_or (set words k 0) j 0) is ∙ get_or-set_same words k 0 0 inside) ∙ bit_at-zero (x % 64)

pub bit-kept : (words : List ℕ) (k v x : ℕ) → k ≢ x / 64 → bit_of (set words k v) x ≡ bit_of words x
unfolding bit_of
bit-kept words k v x far = ap (λ (n : ℕ). bit_at n (x % 64)) (get_or-set_other words k (x / 64) v 0 (λ e. far (sym e)))

-- a bit by the word that has it
pub bit-in : (words : List ℕ) (k i : ℕ) → i < 64 → bit_of words (64 * k + i) ≡ bit_at (get_or words k 0) i
unfolding bit_of
bit-in words k i within =
    let word : (64 * k + i) / 64 ≡ k = omega arith in
    let place : (64 * k + i) % 64 ≡ i = omega arith in
    ap (λ (j : ℕ). bit_at (get_or words j 0) ((64 * k + i) % 64)) word ∙ ap (bit_at (get_or words k 0)) place

-- no bit behind the words
pub bit-behind : (words : List ℕ) (x : ℕ) → length words ≤ x / 64 → bit_of words x ≡ 0
unfolding bit_of
bit-behind words x behind =
    let none : get_or words (x / 64) 0 ≡ 0 = grind (arith, common_steps) in
    ap (λ (n : ℕ). bit_at n (x % 64)) none ∙ bit_at-zero (x % 64)

-- lists to which a number is added
pub in-old : (x y : ℕ) (xs : List ℕ) → ContainsByRecursion x xs → ContainsByRecursion x (xs ++ y ∷ [])
in-old x y [] inside = elim inside [ ]
in-old x y (z ∷ zs) (inl same) = inl same
in-old x y (z ∷ zs) (inr later) = inr (in-old x y zs later)

pub in-new : (x : ℕ) (xs : List ℕ) → ContainsByRecursion x (xs ++ x ∷ [])
in-new x [] = inl refl
in-new x (z ∷ zs) = inr (in-new x zs)

below-last : (z y : ℕ) (xs : List ℕ) → z < y → AllByRecursion (λ x. z < x) xs → AllByRecursion (λ x. z < x) (xs ++ y ∷ [])
below-last z y [] h all = (h, tt)
below-last z y (x ∷ xs) h all = (all.0, below-last z y xs h all.1)

-- a number above all others keeps the order
pub increasing-last : (y : ℕ) (xs : List ℕ) → PairsByRecursion ◌<◌ xs → ((x : ℕ) → ContainsByRecursion x xs → x < y) → PairsByRecursion ◌<◌ (xs ++ y ∷ [])
increasing-last y [] rises above = (tt, tt)
increasing-last y (x ∷ xs) rises above = (below-last x y xs (above x (inl refl)) rises.0, increasing-last y xs rises.1 (λ z inside. above z (inr inside)))

-- What is kept while the bits of a word are read: those in `left` are to be read.
pub record ReadsBits (word first : ℕ) (old : List ℕ) (left : ℕ) (list : List ℕ) : Type 0 where
  pub increasing : PairsByRecursion ◌<◌ list
  pub below : (x : ℕ) → ContainsByRecursion x list → x < first + 64
  pub ahead : (i x : ℕ) → i < 64 → bit_at left i ≡ 1 → ContainsByRecursion x list → x < first + i
  pub unread : (i : ℕ) → i < 64 → bit_at left i ≡ 1 → bit_at word i ≡ 1
  pub read : (i : ℕ) → i < 64 → bit_at word i ≡ 1 → (bit_at left i ≡ 1) ⊎ ContainsByRecursion (first + i) list
  pub kept : (x : ℕ) → ContainsByRecursion x old → ContainsByRecursion x list
  pub sound : (x : ℕ) → ContainsByRecursion x list → ContainsByRecursion x old ⊎ ((i : ℕ) × (i < 64) × (bit_at word i ≡ 1) × (first + i ≡ x))

pub reads-none : (word first : ℕ) (old : List ℕ) → PairsByRecursion ◌<◌ old → ((x : ℕ) → ContainsByRecursion x old → x < first) → ReadsBits word first old word old
reads-none word first old increasing below = record {
  increasing = increasing;
  below = λ x inside. (let small = below x inside in omega arith);
  ahead = λ i x within is inside. (let small = below x inside in omega arith);
  unread = λ i within is. is;
  read = λ i within is. inl is;
  kept = λ x inside. inside;
  sound = λ x inside. inl inside;
}

-- the lowest bit that is left is read
pub reads-more : (word first : ℕ) (old : List ℕ) (left bit cleared : ℕ) (list new : List ℕ) → 0 < left → left < 2 ^ 64 → bit ≡ trailing_zeros w64 left → cleared ≡ bit_and left (bit_not w64 (1 * 2 ^ bit % 2 ^ 64)) → new ≡ list ++ (first + bit) ∷ [] →
    ReadsBits word first old left list → ReadsBits word first old cleared new
reads-more word first old left bit cleared list new some small lowest rest grown h = record {
  increasing = subst (λ (xs : List ℕ). PairsByRecursion ◌<◌ xs) (sym grown) (increasing-last (first + bit) list h.increasing (λ x inside. h.ahead bit x bit_small bit_set inside));
  below = λ x inside. elim (was x inside) [ inl old ↦ h.below x old | inr is ↦ omega (arith, bit_small) ];
  ahead = λ i x within is inside.
      let left_set = still i within is in
      elim (was x inside) [ inl old ↦ h.ahead i x within left_set old | inr new_one ↦ (let later = above i within is in omega arith) ];
  unread = λ i within is. h.unread i within (still i within is);
  read = λ i within is.
      elim (cases_eq i bit) [
        | inl here ↦ inr (rw grown (rw here (in-new (first + bit) list)))
        | inr far ↦
            elim (h.read i within is) [
              | inl unread ↦ inl (rest_bit i within far ∙ unread)
              | inr listed ↦ inr (rw grown (in-old (first + i) (first + bit) list listed))
            ]
      ];
  kept = λ x inside. rw grown (in-old x (first + bit) list (h.kept x inside));
  sound = λ x inside. elim (was x inside) [ inl old ↦ h.sound x old | inr is ↦ inr (bit, bit_small, h.unread bit bit_small bit_set, sym is) ];
}
  where
    facts : (bit < 64) × (bit_at left bit ≡ 1) × ((i : ℕ) → i < bit → bit_at left i ≡ 0)
    facts = subst (λ (k : ℕ). (k < 64) × (bit_at left k ≡ 1) × ((i : ℕ) → i < k → bit_at left i ≡ 0)) (sym lowest) (bit_at-trailing_zeros w64 left some small)

    bit_small : bit < 64
    bit_small = facts.0

    bit_set : bit_at left bit ≡ 1
    bit_set = facts.1

    was : (x : ℕ) → ContainsByRecursion x new → ContainsByRecursion x list ⊎ (x ≡ first + bit)
    was x inside = in-append-last x (first + bit) list (subst (λ (xs : List ℕ). ContainsByRecursion x xs) grown inside)

    rest_bit : (i : ℕ) → i < 64 → i ≢ bit → bit_at cleared i ≡ bit_at left i
    rest_bit i within far = ap (λ (n : ℕ). bit_at n i) rest ∙ bit_at_clear_other w64 left bit bit_small i within far

    gone : bit_at cleared bit ≡ 0
    gone = ap (λ (n : ℕ). bit_at n bit) rest ∙ bit_at_clear_same w64 left bit bit_small

    apart : (i : ℕ) → bit_at cleared i ≡ 1 → i ≢ bit
    apart i is same = let zero_here : bit_at cleared i ≡ 0 = ap (bit_at cleared) same ∙ gone in absurd (cc)

    still : (i : ℕ) → i < 64 → bit_at cleared i ≡ 1 → bit_at left i ≡ 1
    still i within is = sym (rest_bit i within (apart i is)) ∙ is

    above : (i : ℕ) → i < 64 → bit_at cleared i ≡ 1 → bit < i
    above i within is =
        elim (cases_lt bit i) [
          | inl later ↦ later
          | inr before ↦
              elim (cases_eq i bit) [
                | inl same ↦ absurd (apart i is same)
                | inr far ↦ (let zero_here = facts.2 i (omega arith) in let one_here = still i within is in absurd (cc))
              ]
        ]

-- a cleared bit makes the word less
pub cleared-less : (left bit : ℕ) → 0 < left → left < 2 ^ 64 → bit ≡ trailing_zeros w64 left → bit_and left (bit_not w64 (1 * 2 ^ bit % 2 ^ 64)) < left
cleared-less left bit some small lowest =
    let facts = subst (λ (k : ℕ). (k < 64) × (bit_at left k ≡ 1) × ((i : ℕ) → i < k → bit_at left i ≡ 0)) (sym lowest) (bit_at-trailing_zeros w64 left some small) in
    let at_most = and_le_l left (bit_not w64 (1 * 2 ^ bit % 2 ^ 64)) in
    elim (cases_eq (bit_and left (bit_not w64 (1 * 2 ^ bit % 2 ^ 64))) left) [
      | inl same ↦ (let gone = bit_at_clear_same w64 left bit facts.0 in let one : bit_at (bit_and left (bit_not w64 (1 * 2 ^ bit % 2 ^ 64))) bit ≡ 1 = ap (λ (n : ℕ). bit_at n bit) same ∙ facts.1 in absurd (cc))
      | inr other ↦ omega arith
    ]

-- all bits were read
pub reads-all : (word first : ℕ) (old list : List ℕ) → ReadsBits word first old 0 list → (x : ℕ) → ContainsByRecursion x list ↔ (ContainsByRecursion x old ⊎ ((i : ℕ) × (i < 64) × (bit_at word i ≡ 1) × (first + i ≡ x)))
reads-all word first old list h x = (
  λ inside. h.sound x inside,
  λ from.
      elim from [
        | inl was ↦ h.kept x was
        | inr (i, within, is, at) ↦
            subst (λ (y : ℕ). ContainsByRecursion y list) at
            (elim (h.read i within is) [ inl unread ↦ (let none = bit_at-zero i in absurd (cc)) | inr listed ↦ listed ])
      ],
)
