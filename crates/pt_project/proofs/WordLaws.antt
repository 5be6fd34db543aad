-- Words that are read one after the other, and the marks of successors.
use Rattle.std.proofs.Common.{◌≡◌, ◌≢◌, ◌⊎◌, ◌↔◌, inl, inr, ℕ, ◌+◌, ◌*◌, ◌/◌, ◌%◌, ◌<◌, ◌≤◌, List, [], length, take, get_or, set, refl, ap, sym, ◌∙◌, subst, arith}
use Rattle.std.specs.Int.{bit_at}
use Rattle.std.proofs.lemmas.Bool.{cases_lt, cases_eq}
use Rattle.std.proofs.lemmas.List.{length-set, take_more}
use Rattle.pt_base.specs.Elements.{ContainsByRecursion, PairsByRecursion}
use Rattle.pt_project.specs.Bits.{bit_of, HasBit}
use Rattle.pt_project.proofs.BitLaws.{bit-cleared, bit-kept, bit-in, bit-behind, in-old, in-new}
use Rattle.pt_project.proofs.Orders.{in-take-more}

-- the first k words were cleared, and their numbers listed
pub record TakesWords (initial : List ℕ) (k : ℕ) (words list : List ℕ) : Type 0 where
  pub count : length words ≡ length initial
  pub cleared : (x : ℕ) → x / 64 < k → bit_of words x ≡ 0
  pub same : (x : ℕ) → k ≤ x / 64 → bit_of words x ≡ bit_of initial x
  pub increasing : PairsByRecursion ◌<◌ list
  pub below : (x : ℕ) → ContainsByRecursion x list → x < 64 * k
  pub sound : (x : ℕ) → ContainsByRecursion x list → HasBit initial x
  pub complete : (x : ℕ) → x < 64 * k → HasBit initial x → ContainsByRecursion x list

pub takes-none : (initial list : List ℕ) → list ≡ [] → TakesWords initial 0 initial list
takes-none initial list none =
    let empty : (x : ℕ) → ContainsByRecursion x list → ⊥ = λ x inside. subst (λ (xs : List ℕ). ContainsByRecursion x xs) none inside in
    record {
      count = refl;
      cleared = λ x h. absurd (omega arith);
      same = λ x h. refl;
      increasing = subst (λ (xs : List ℕ). PairsByRecursion ◌<◌ xs) (sym none) tt;
      below = λ x inside. absurd (empty x inside);
      sound = λ x inside. absurd (empty x inside);
      complete = λ x h is. absurd (omega arith);
    }

-- one more word
pub takes-more : (initial : List ℕ) (k word first : ℕ) (words list new : List ℕ) → k < length words → word ≡ get_or words k 0 → first ≡ 64 * k → PairsByRecursion ◌<◌ new → ((x : ℕ) → ContainsByRecursion x new → x < first + 64) →
    ((x : ℕ) → ContainsByRecursion x new ↔ (ContainsByRecursion x list ⊎ ((i : ℕ) × (i < 64) × (bit_at word i ≡ 1) × (first + i ≡ x)))) → TakesWords initial k words list → TakesWords initial (k + 1) (set words k 0) new
takes-more initial k word first words list new inside is start rises small members h = record {
  count = length-set words k 0 ∙ h.count;
  cleared = λ x before.
      elim (cases_eq (x / 64) k) [
        | inl here ↦ bit-cleared words k x here inside
        | inr far ↦ bit-kept words k 0 x (λ e. far (sym e)) ∙ h.cleared x (omega arith)
      ];
  same = λ x behind. bit-kept words k 0 x (λ e. (let here : k ≡ x / 64 = e in absurd (omega arith))) ∙ h.same x (omega arith);
  increasing = rises;
  below = λ x within. (let bound = small x within in omega arith);
  sound = λ x within.
      elim ((members x).0 within) [
        | inl before ↦ h.sound x before
        | inr (i, low, bit, at) ↦
            let place : 64 * k + i ≡ x = omega arith in
            subst (HasBit initial) place (sym (h.same (64 * k + i) (omega arith)) ∙ bit-in words k i low ∙ ap (λ (n : ℕ). bit_at n i) (sym is) ∙ bit)
      ];
  complete = λ x bound has.
      elim (cases_lt x (64 * k)) [
        | inl before ↦ (members x).1 (inl (h.complete x before has))
        | inr here ↦
            let at : 64 * k + x % 64 ≡ x = omega arith in
            let bit : bit_at word (x % 64) ≡ 1 =
            ap (λ (n : ℕ). bit_at n (x % 64)) is ∙ sym (bit-in words k (x % 64) (omega arith)) ∙ ap (bit_of words) at ∙ h.same x (omega arith) ∙ has in
            (members x).1 (inr (x % 64, omega arith, bit, omega arith))
      ];
}

-- after all words
pub takes-all-none : (initial : List ℕ) (k : ℕ) (words list : List ℕ) → length initial ≤ k → TakesWords initial k words list → (x : ℕ) → bit_of words x ≡ 0
takes-all-none initial k words list all h x =
    let count : length words ≡ length initial = h.count in
    elim (cases_lt (x / 64) k) [ inl before ↦ h.cleared x before | inr behind ↦ bit-behind words x (omega arith) ]

pub takes-all-members : (initial : List ℕ) (k : ℕ) (words list : List ℕ) → length initial ≤ k → TakesWords initial k words list → (x : ℕ) → ContainsByRecursion x list ↔ HasBit initial x
takes-all-members initial k words list all h x = (
  λ inside. h.sound x inside,
  λ has.
      elim (cases_lt x (64 * k)) [
        | inl before ↦ h.complete x before has
        | inr behind ↦ (let none = bit-behind initial x (omega arith) in absurd (cc))
      ],
)

module _ (f g : ℕ → ℕ) where
  -- the successors of a list by two functions
  abbrev pub IsNext : List ℕ → ℕ → Type 0
  IsNext xs y = (x : ℕ) × ContainsByRecursion x xs × ((f x ≡ y) ⊎ (g x ≡ y))

  pub marks-none : (words xs : List ℕ) → ((x : ℕ) → bit_of words x ≡ 0) → (y : ℕ) → HasBit words y ↔ IsNext (take 0 xs) y
  marks-none words xs none y = (λ has. (let clear = none y in absurd (cc)), λ (x, inside, is). elim inside [ ])

  -- both successors of one more element
  pub marks-more : (xs : List ℕ) (i : ℕ) (words first second : List ℕ) → i < length xs → HasBit first (f (get_or xs i 0)) → ((y : ℕ) → y ≢ f (get_or xs i 0) → bit_of first y ≡ bit_of words y) →
      HasBit second (g (get_or xs i 0)) → ((y : ℕ) → y ≢ g (get_or xs i 0) → bit_of second y ≡ bit_of first y) → ((y : ℕ) → HasBit words y ↔ IsNext (take i xs) y) → (y : ℕ) → HasBit second y ↔ IsNext (take (i + 1) xs) y
  marks-more xs i words first second inside first_has first_else second_has second_else h y = (sound, λ (x, listed, is). complete x listed is)
    where
      here : ContainsByRecursion (get_or xs i 0) (take (i + 1) xs)
      here = subst (λ (ys : List ℕ). ContainsByRecursion (get_or xs i 0) ys) (sym (take_more xs i 0 inside)) (in-new (get_or xs i 0) (take i xs))

      longer : (x : ℕ) → ContainsByRecursion x (take i xs) → ContainsByRecursion x (take (i + 1) xs)
      longer x listed = subst (λ (ys : List ℕ). ContainsByRecursion x ys) (sym (take_more xs i 0 inside)) (in-old x (get_or xs i 0) (take i xs) listed)

      sound : HasBit second y → IsNext (take (i + 1) xs) y
      sound has =
          elim (cases_eq y (g (get_or xs i 0))) [
            | inl at ↦ (get_or xs i 0, here, inr (sym at))
            | inr far ↦
                elim (cases_eq y (f (get_or xs i 0))) [
                  | inl at ↦ (get_or xs i 0, here, inl (sym at))
                  | inr farther ↦ let (x, listed, is) = (h y).0 (sym (first_else y farther) ∙ sym (second_else y far) ∙ has) in (x, longer x listed, is)
                ]
          ]

      by-second : HasBit first y → HasBit second y
      by-second has = elim (cases_eq y (g (get_or xs i 0))) [ inl at ↦ subst (HasBit second) (sym at) second_has | inr far ↦ second_else y far ∙ has ]

      by-first : HasBit words y → HasBit first y
      by-first has = elim (cases_eq y (f (get_or xs i 0))) [ inl at ↦ subst (HasBit first) (sym at) first_has | inr far ↦ first_else y far ∙ has ]

      complete : (x : ℕ) → ContainsByRecursion x (take (i + 1) xs) → (f x ≡ y) ⊎ (g x ≡ y) → HasBit second y
      complete x listed is =
          elim (in-take-more x i xs inside listed) [
            | inl before ↦ by-second (by-first ((h y).1 (x, before, is)))
            | inr last ↦
                elim is [
                  | inl by_f ↦ by-second (subst (HasBit first) (ap f (sym last) ∙ by_f) first_has)
                  | inr by_g ↦ subst (HasBit second) (ap g (sym last) ∙ by_g) second_has
                ]
          ]
