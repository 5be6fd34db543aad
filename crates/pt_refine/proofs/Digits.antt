-- Answers as binary digits.
use Rattle.std.proofs.Common.{◌≡◌, ◌≢◌, ◌⊎◌, inl, inr, ℕ, zero, suc, ◌+◌, ◌-◌, ◌*◌, ◌^◌, ◌<◌, ◌≤◌, Bool, true, false, cond, List, get_or, refl, ap, sym, ◌∙◌, subst, arith}
use Rattle.std.proofs.Math.Nat.{pow-suc}
use Rattle.std.proofs.lemmas.Bool.{cases_eq, cases_lt}
use Rattle.pt_sets.specs.Automata.{Automaton, next_of, output_of}
use Rattle.pt_refine.specs.Refining.{binary, Separates, NumbersPairs, SameOutputs, ToldBy}
use Rattle.pt_refine.proofs.Splitting.{separates-split}
use Rattle.pt_refine.proofs.Meaning.{told-empty}

abbrev digit : Bool → ℕ
digit b = cond b 1 0

digit-small : (b : Bool) → digit b ≤ 1
digit-small true = omega arith
digit-small false = omega arith

digit-same : (x y : Bool) → digit x ≡ digit y → x ≡ y
digit-same true true e = refl
digit-same false false e = refl
digit-same true false e = absurd (omega arith)
digit-same false true e = absurd (omega arith)

cases_bool : (x y : Bool) → (x ≡ y) ⊎ (x ≢ y)
cases_bool x y = elim (cases_eq (digit x) (digit y)) [ inl e ↦ inl (digit-same x y e) | inr ne ↦ inr (λ e. ne (ap digit e)) ]

pub binary-below : (f : ℕ → Bool) (k : ℕ) → binary f k < 2 ^ k
binary-below f zero = omega arith
binary-below f (suc k) = let lt = binary-below f k in let digit = digit-small (f k) in rw (pow-suc 2 k) (omega arith)

-- the last digit and those before it
parts-same : (x y d e : ℕ) → d ≤ 1 → e ≤ 1 → x * 2 + d ≡ y * 2 + e → (x ≡ y) × (d ≡ e)
parts-same x y d e d_small e_small same = (omega arith, omega arith)

-- equal numbers have equal digits
pub binary-same : (f g : ℕ → Bool) (k : ℕ) → binary f k ≡ binary g k → (i : ℕ) → i < k → f i ≡ g i
binary-same f g zero e i lt = absurd (omega arith)
binary-same f g (suc k) e i lt =
    let both = parts-same (binary f k) (binary g k) (digit (f k)) (digit (g k)) (digit-small (f k)) (digit-small (g k)) e in
    elim (cases_lt i k) [
      | inl before ↦ binary-same f g k both.0 i before
      | inr past ↦ let last : k ≡ i = omega arith in subst (λ (j : ℕ). f j ≡ g j) last (digit-same (f k) (g k) both.1)
    ]

-- different numbers differ in a digit
pub binary-differs : (f g : ℕ → Bool) (k : ℕ) → binary f k ≢ binary g k → (i : ℕ) × (i < k) × (f i ≢ g i)
binary-differs f g zero ne = absurd (ne refl)
binary-differs f g (suc k) ne = elim (cases_bool (f k) (g k)) [
  | inr differ ↦ (k, omega arith, differ)
  | inl same ↦
      let earlier = binary-differs f g k (λ e. ne (ap (λ x. x * 2 + digit (f k)) e ∙ ap (λ b. binary g k * 2 + digit b) same)) in
      let lt = earlier.1 in
      (earlier.0, omega arith, earlier.2)
]

-- classes of equal outputs at some signs are split by keys of the next ones
pub outputs-more : (a : Automaton) (from k : ℕ) (left right new : List ℕ) (count count' : ℕ) → from + k ≤ 2 ^ a.tracks → Separates a.states (SameOutputs a from) (ToldBy a) left count →
    ((q : ℕ) → q < a.states → get_or right q 0 ≡ binary (λ i. output_of a q (from + i)) k) → NumbersPairs left right new count' → Separates a.states (SameOutputs a (from + k)) (ToldBy a) new count'
outputs-more a from k left right new count count' within old keys split =
    separates-split old (SameOutputs a (from + k)) right new count' split
    (λ q r q_in r_in same equal s s_in. elim (cases_lt s from) [
      | inl before ↦ same s before
      | inr past ↦
          let at : from + (s - from) ≡ s = omega arith in
          let digit = binary-same (λ i. output_of a q (from + i)) (λ i. output_of a r (from + i)) k (sym (keys q q_in) ∙ equal ∙ keys r r_in) (s - from) (omega arith) in
          subst (λ (i : ℕ). output_of a q i ≡ output_of a r i) at digit
    ])
    (λ q r q_in r_in differ.
    let digit = binary-differs (λ i. output_of a q (from + i)) (λ i. output_of a r (from + i)) k (λ e. differ (keys q q_in ∙ e ∙ sym (keys r r_in))) in
    let lt = digit.1 in
    told-empty a.tracks a.states (next_of a) (output_of a) q r (from + digit.0) (omega arith) digit.2)
