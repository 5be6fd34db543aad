-- The steps of a refinement by the smaller half.
use Rattle.std.proofs.Common.{◌≡◌, ◌≢◌, ◌⊎◌, inl, inr, ℕ, ◌+◌, ◌^◌, ◌<◌, ◌≤◌, ◌↔◌, List, length, get_or, refl, ap, sym, ◌∙◌, subst, arith}
use Rattle.std.proofs.lemmas.Bool.{cases_eq, cases_lt}
use Rattle.pt_sets.specs.Automata.{Automaton, IsAutomaton, next_of, output_of}
use Rattle.pt_refine.specs.Refining.{Separates, SameOutputs, ToldBy, IsStable}
use Rattle.pt_refine.specs.Halving.{Refines, Pends, JustOne, Owes, SplitsBy, IsLayout}
use Rattle.pt_refine.proofs.Layouts.{layout-count}
use Rattle.pt_refine.proofs.Meaning.{told-letter}

-- of two different numbers one is at least 1
pub pends-first : (n k : ℕ) (next : ℕ → ℕ → ℕ) (class : ℕ → ℕ) → Pends n k next class 1
pends-first n k next class = record {
  pending = λ q r l q_in r_in letter same differ. elim (cases_eq (class (next q l)) 0) [
    | inr ne ↦ inl (omega arith)
    | inl e ↦ inr (omega arith)
  ];
}

-- the next class begins to split others
pub owes-begin : {n k at : ℕ} {next : ℕ → ℕ → ℕ} {class : ℕ → ℕ} → Pends n k next class at → Owes n k next class class at 0
owes-begin {n} {k} {at} {next} {class} pends = record {
  owed = λ q r l q_in r_in letter same differ.
      elim (cases_lt at (class (next q l))) [
        | inl above ↦ inl above
        | inr q_low ↦ elim (cases_lt at (class (next r l))) [
          | inl above ↦ inr (inl above)
          | inr r_low ↦ inr (inr (
            omega arith,
            elim (pends.pending q r l q_in r_in letter same differ) [
              | inl here ↦ let e : class (next q l) ≡ at = omega arith in inl (e, λ r_at. differ (e ∙ sym r_at))
              | inr here ↦ let e : class (next r l) ≡ at = omega arith in inr (λ q_at. differ (q_at ∙ sym e), e)
            ],
          ))
        ]
      ];
}

-- the class has split others by all letters
pub owes-end : {n k at : ℕ} {next : ℕ → ℕ → ℕ} {was class : ℕ → ℕ} → Owes n k next was class at k → Pends n k next class (at + 1)
owes-end {n} {k} {at} {next} {was} {class} owes = record {
  pending = λ q r l q_in r_in letter same differ. elim (owes.owed q r l q_in r_in letter same differ) [
    | inl above ↦ inl (omega arith)
    | inr rest ↦ elim rest [ inl above ↦ inr (omega arith) | inr none ↦ let past = none.0 in absurd (omega arith) ]
  ];
}

-- what is pending stays pending through a split
split-above : {n count at : ℕ} {In : ℕ → Type 0} {class class' : ℕ → ℕ} → SplitsBy n count In class class' → at < count → (x : ℕ) → x < n → at < class x → at < class' x
split-above splits lt x x_in above = elim (splits.numbers x x_in) [ inl e ↦ omega arith | inr new ↦ omega arith ]

-- the class has split others by one more letter
pub owes-split : {n k count at a : ℕ} {next : ℕ → ℕ → ℕ} {was class class' : ℕ → ℕ} {In : ℕ → Type 0} → ((q l : ℕ) → q < n → l < k → next q l < n) →
    Owes n k next was class at a → SplitsBy n count In class class' → at < count → ((q : ℕ) → q < n → In q ↔ (was (next q a) ≡ at)) → Owes n k next was class' at (a + 1)
owes-split {n} {k} {count} {at} {a} {next} {was} {class} {class'} {In} inside owes splits lt dealt = record {
  owed = λ q r l q_in r_in letter same differ.
      let q' = next q l in
      let r' = next r l in
      let q'_in = inside q l q_in letter in
      let r'_in = inside r l r_in letter in
      let both = splits.finer q r q_in r_in same in
      elim (cases_eq (class q') (class r')) [
        | inl one ↦ elim (splits.numbers q' q'_in) [
          | inr q_new ↦ inl (omega arith)
          | inl q_stays ↦ elim (splits.numbers r' r'_in) [
            | inr r_new ↦ inr (inl (omega arith))
            | inl r_stays ↦ absurd (differ (q_stays ∙ one ∙ sym r_stays))
          ]
        ]
        | inr apart ↦ elim (owes.owed q r l q_in r_in letter both.0 apart) [
          | inl above ↦ inl (split-above splits lt q' q'_in above)
          | inr rest ↦ elim rest [
            | inl above ↦ inr (inl (split-above splits lt r' r'_in above))
            | inr under ↦ elim (cases_eq l a) [
              | inr ne ↦ let from = under.0 in inr (inr (omega arith, under.1))
              | inl e ↦
                  let at_q : was q' ≡ was (next q a) = ap (λ i. was (next q i)) e in
                  let at_r : was r' ≡ was (next r a) = ap (λ i. was (next r i)) e in
                  let to_r : was q' ≡ at → was r' ≡ at = λ is. at_r ∙ (dealt r r_in).0 (both.1.0 ((dealt q q_in).1 (sym at_q ∙ is))) in
                  let to_q : was r' ≡ at → was q' ≡ at = λ is. at_q ∙ (dealt q q_in).0 (both.1.1 ((dealt r r_in).1 (sym at_r ∙ is))) in
                  absurd (elim under.1 [ inl only ↦ only.1 (to_r only.0) | inr only ↦ only.0 (to_q only.1) ])
            ]
          ]
        ]
      ];
}

-- a split by one letter tells states apart whose successors were told apart
pub refines-split : (a : Automaton) (count at l : ℕ) (was class class' : ℕ → ℕ) (In : ℕ → Type 0) → IsAutomaton a → l < 2 ^ a.tracks → Refines a was → Refines a class →
    SplitsBy a.states count In class class' → ((q : ℕ) → q < a.states → In q ↔ (was (next_of a q l) ≡ at)) → Refines a class'
refines-split a count at l was class class' In shape letter before old splits dealt = record {
  alike = λ q r q_in r_in e. old.alike q r q_in r_in (splits.finer q r q_in r_in e).0;
  apart = λ q r q_in r_in ne.
      let q' = next_of a q l in
      let r' = next_of a r l in
      let tell : was q' ≢ was r' → ToldBy a q r = λ differ.
      told-letter a.tracks a.states (next_of a) (output_of a) q r l letter (before.apart q' r' (shape.closed q l q_in letter) (shape.closed r l r_in letter) differ) in
      elim (cases_eq (class q) (class r)) [
        | inr apart ↦ old.apart q r q_in r_in apart
        | inl one ↦ elim (cases_eq (was q') (was r')) [
          | inr differ ↦ tell differ
          | inl same ↦ absurd (ne (splits.same q r q_in r_in one
              (λ q_at. (dealt r r_in).1 (sym same ∙ (dealt q q_in).0 q_at), λ r_at. (dealt q q_in).1 (same ∙ (dealt r r_in).0 r_at))))
        ]
      ];
}

-- classes that were split by the first k numbers
pub record SplitTo (n k : ℕ) (numbers class : ℕ → ℕ) : Type 0 where
  pub finer : (q r d : ℕ) → q < n → r < n → class q ≡ class r → d < k → numbers q ≡ d → numbers r ≡ d
  pub same : (q r : ℕ) → q < n → r < n → numbers q ≡ numbers r → class q ≡ class r

pub split-none : (n : ℕ) (numbers class : ℕ → ℕ) → ((q : ℕ) → q < n → class q ≡ 0) → SplitTo n 0 numbers class
split-none n numbers class one = record {
  finer = λ q r d q_in r_in e lt is. absurd (omega arith);
  same = λ q r q_in r_in e. one q q_in ∙ sym (one r r_in);
}

pub split-more : {n k count : ℕ} {numbers class class' : ℕ → ℕ} {In : ℕ → Type 0} → SplitTo n k numbers class → SplitsBy n count In class class' → ((q : ℕ) → q < n → In q ↔ (numbers q ≡ k)) →
    SplitTo n (k + 1) numbers class'
split-more {n} {k} {count} {numbers} {class} {class'} {In} was splits row = record {
  finer = λ q r d q_in r_in e lt is.
      let both = splits.finer q r q_in r_in e in
      elim (cases_eq d k) [
        | inl last ↦ (row r r_in).0 (both.1.0 ((row q q_in).1 (is ∙ last))) ∙ sym last
        | inr ne ↦ was.finer q r d q_in r_in both.0 (omega arith) is
      ];
  same = λ q r q_in r_in e. splits.same q r q_in r_in (was.same q r q_in r_in e)
      (λ q_at. (row r r_in).1 (sym e ∙ (row q q_in).0 q_at), λ r_at. (row q q_in).1 (e ∙ (row r r_in).0 r_at));
}

pub split-all : {n k : ℕ} {numbers class : ℕ → ℕ} → SplitTo n k numbers class → ((q : ℕ) → q < n → numbers q < k) → (q r : ℕ) → q < n → r < n → (class q ≡ class r) ↔ (numbers q ≡ numbers r)
split-all {n} {k} {numbers} {class} was below q r q_in r_in = (
  λ e. sym (was.finer q r (numbers q) q_in r_in e (below q q_in) refl),
  was.same q r q_in r_in,
)

-- the same classes under other numbers
pub refines-from : {a : Automaton} {numbers : List ℕ} {count : ℕ} (class : List ℕ) → Separates a.states (SameOutputs a (2 ^ a.tracks)) (ToldBy a) numbers count →
    ((q r : ℕ) → q < a.states → r < a.states → (get_or class q 0 ≡ get_or class r 0) ↔ (get_or numbers q 0 ≡ get_or numbers r 0)) → Refines a (λ q. get_or class q 0)
refines-from {a} {numbers} {count} class separates same = record {
  alike = λ q r q_in r_in e. separates.alike q r q_in r_in ((same q r q_in r_in).0 e);
  apart = λ q r q_in r_in ne. separates.apart q r q_in r_in (λ e. ne ((same q r q_in r_in).1 e));
}

-- where no class is yet to split others, successors of one class are in one class
pub stable-at : {a : Automaton} {order place starts ends marked : ℕ → ℕ} (class : List ℕ) (count at : ℕ) → IsAutomaton a → length class ≡ a.states →
    IsLayout a.states count order place (λ q. get_or class q 0) starts ends marked → Refines a (λ q. get_or class q 0) →
    Pends a.states (2 ^ a.tracks) (next_of a) (λ q. get_or class q 0) at → count ≤ at → IsStable a class count
stable-at {a} {order} {place} {starts} {ends} {marked} class count at shape size lay refines pends all = record {
  separates = record {
    numbering = record {
      size = size;
      below = lay.class_in;
      used = λ c c_in.
          let some = lay.some c c_in in
          let member = lay.members c (starts c) c_in (omega arith) some in
          (order (starts c), lay.order_in (starts c) member.0, member.1);
    };
    alike = refines.alike;
    apart = refines.apart;
  };
  few = layout-count lay;
  stable = λ q r l q_in r_in same letter. elim (cases_eq (get_or class (next_of a q l) 0) (get_or class (next_of a r l) 0)) [
    | inl e ↦ e
    | inr ne ↦
        let q' = lay.class_in (next_of a q l) (shape.closed q l q_in letter) in
        let r' = lay.class_in (next_of a r l) (shape.closed r l r_in letter) in
        absurd (elim (pends.pending q r l q_in r_in letter same ne) [ inl past ↦ omega arith | inr past ↦ omega arith ])
  ];
}
