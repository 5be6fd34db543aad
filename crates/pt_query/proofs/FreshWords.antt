-- Fresh words in order, letter by letter.
use Rattle.std.proofs.Common.{◌≡◌, ◌≢◌, ◌⊎◌, inl, inr, ℕ, suc, ◌+◌, ◌-◌, ◌^◌, ◌<◌, ◌≤◌, Bool, true, false, List, [], ◌∷◌, ◌++◌, length, get_or, take, drop, Option, Some, refl, ap, sym, ◌∙◌, subst, arith, length-append}
use Rattle.std.specs.Prelude.{IsTrue, slice_index_or}
use Rattle.std.proofs.lemmas.Bool.{cases_eq, cases_lt}
use Rattle.std.proofs.lemmas.List.{get_or_append_left, get_or_push, take_all}
use Rattle.pt_sets.specs.Words.{IsLetter}
use Rattle.pt_sets.specs.Automata.{Automaton, next_of, output_of}
use Rattle.pt_sets.specs.Shortlex.{IsLexBefore}
use Rattle.pt_query.specs.Fresh.{IsFreshFrom, IsAcceptedFrom, FirstAtLeast, IsLeastFrom, HasNoneFrom, IsLeastAfter, HasNoneAfter, IsRow}

pub fresh-accepted : (a : Automaton) (before : Option ℕ) (q : ℕ) (w : List ℕ) → IsFreshFrom a before q w → IsAcceptedFrom a q w
fresh-accepted a before q [] h = h
fresh-accepted a before q (s ∷ []) h = (h.0, h.2)
fresh-accepted a before q (l ∷ m ∷ w) h = (h.0, fresh-accepted a (Some l) (next_of a q l) (m ∷ w) h.1)

pub first-zero : (a : Automaton) (before : Option ℕ) (q : ℕ) (w : List ℕ) → IsFreshFrom a before q w → FirstAtLeast 0 w
first-zero a before q [] h = h
first-zero a before q (s ∷ w) h = omega arith

-- a list is its first item and the others
pub split-head : (xs : List ℕ) → 0 < length xs → xs ≡ get_or xs 0 0 ∷ take (length xs - 1) (drop 1 xs)
split-head [] h = absurd (omega arith)
split-head (x ∷ xs) h = ap (λ (ys : List ℕ). x ∷ ys) (sym (take_all (length (x ∷ xs) - 1) xs (omega arith)))

pub split-one : (xs : List ℕ) → 0 < length xs → length xs ≤ 1 → xs ≡ get_or xs 0 0 ∷ []
split-one [] h few = absurd (omega arith)
split-one (x ∷ []) h few = refl
split-one (x ∷ y ∷ xs) h few = absurd (omega arith)

-- a row up to a state
pub record IsRowTo (a : Automaton) (n k : ℕ) (row : List Bool) : Type 0 where
  pub count : length row ≡ k
  pub marked : (q : ℕ) (w : List ℕ) → q < k → IsAcceptedFrom a q w → length w ≡ n → slice_index_or row q false ≡ true

pub row-begins : (a : Automaton) (n : ℕ) (row : List Bool) → row ≡ [] → IsRowTo a n 0 row
row-begins a n row is = record { count = ap length is; marked = λ q w h. absurd (omega arith) }

pub row-push : (a : Automaton) (n k : ℕ) (row : List Bool) (b : Bool) → IsRowTo a n k row → ((w : List ℕ) → IsAcceptedFrom a k w → length w ≡ n → b ≡ true) → IsRowTo a n (k + 1) (row ++ b ∷ [])
row-push a n k row b is here = record {
  count = length-append row (b ∷ []) ∙ ap (λ (m : ℕ). m + 1) is.count;
  marked = λ q w h accepted len.
      elim (cases_lt q k) [
        | inl lt ↦ get_or_append_left row (b ∷ []) false q (omega (arith, lt, is.count)) ∙ is.marked q w lt accepted len
        | inr ge ↦ let same : q ≡ k = omega (arith, h, ge) in get_or_push row b false q (is.count ∙ sym same) ∙ here w (subst (λ (r : ℕ). IsAcceptedFrom a r w) same accepted) len
      ];
}

pub row-ends : (a : Automaton) (n k : ℕ) (row : List Bool) → k ≡ a.states → IsRowTo a n k row → IsRow a n row
row-ends a n k row all is = record { count = is.count ∙ all; marked = λ q w h. is.marked q w (omega (arith, h, all)) }

-- a word of one letter
pub one-accepted : (a : Automaton) (q : ℕ) (w : List ℕ) → IsAcceptedFrom a q w → length w ≡ 1 → (s : ℕ) × IsLetter a.tracks s × IsTrue (output_of a q s)
one-accepted a q [] h len = absurd h
one-accepted a q (s ∷ []) h len = (s, h.0, h.1)
one-accepted a q (l ∷ m ∷ w) h len = absurd (omega arith)

-- a longer word begins with a letter that leads to a state with the rest
pub more-accepted : (a : Automaton) (q n : ℕ) (w : List ℕ) → 0 < n → IsAcceptedFrom a q w → length w ≡ n + 1 → (l : ℕ) × IsLetter a.tracks l × ((u : List ℕ) × IsAcceptedFrom a (next_of a q l) u × (length u ≡ n))
more-accepted a q n [] some h len = absurd h
more-accepted a q n (s ∷ []) some h len = absurd (omega (arith, some, len))
more-accepted a q n (l ∷ m ∷ w) some h len = (l, h.0, (m ∷ w, h.1, omega arith))

module _ (a : Automaton) (before : Option ℕ) (q : ℕ) where
  -- words of one letter
  pub one-step : (low s : ℕ) → ((y : List ℕ) → IsFreshFrom a before q y → length y ≡ 1 → FirstAtLeast low y → FirstAtLeast s y) → (IsLetter a.tracks s → IsTrue (output_of a q s) → (before ≢ Some s) → ⊥) → (y : List ℕ) → IsFreshFrom a before q y → length y ≡ 1 → FirstAtLeast low y → FirstAtLeast (s + 1) y
  one-step low s earlier none [] h len first = h
  one-step low s earlier none (r ∷ []) h len first =
      let at = earlier (r ∷ []) h len first in
      elim (cases_eq r s) [
        | inl same ↦ absurd (none (subst (IsLetter a.tracks) same h.0) (subst (λ (x : ℕ). IsTrue (output_of a q x)) same h.2) (subst (λ (x : ℕ). before ≢ Some x) same h.1))
        | inr other ↦ omega (arith, at, other)
      ]
  one-step low s earlier none (l ∷ m ∷ w) h len first = absurd (omega arith)

  pub one-least : (low s : ℕ) → low ≤ s → IsLetter a.tracks s → (before ≢ Some s) → IsTrue (output_of a q s) → ((y : List ℕ) → IsFreshFrom a before q y → length y ≡ 1 → FirstAtLeast low y → FirstAtLeast s y) → IsLeastFrom a before q 1 low (s ∷ [])
  one-least low s le is_s other shown earlier = record {
    fresh = (is_s, other, shown);
    count = refl;
    first = le;
    least = λ y h len first. compare y h len (earlier y h len first);
  }
    where
      compare : (y : List ℕ) → IsFreshFrom a before q y → length y ≡ 1 → FirstAtLeast s y → (y ≡ s ∷ []) ⊎ IsLexBefore (s ∷ []) y
      compare [] h len first = absurd h
      compare (r ∷ []) h len first = elim (cases_eq r s) [ inl same ↦ inl (ap (λ (x : ℕ). x ∷ []) same) | inr not_same ↦ inr (inl (omega (arith, first, not_same))) ]
      compare (l ∷ m ∷ w) h len first = absurd (omega arith)

  -- no letter is left
  pub none-left : (n low k : ℕ) → 2 ^ a.tracks ≤ k → ((y : List ℕ) → IsFreshFrom a before q y → length y ≡ n → FirstAtLeast low y → FirstAtLeast k y) → HasNoneFrom a before q n low
  none-left n low k past all y h len first = against y h (all y h len first)
    where
      against : (y : List ℕ) → IsFreshFrom a before q y → FirstAtLeast k y → ⊥
      against [] h at = h
      against (s ∷ []) h at = omega (arith, past, at, h.0)
      against (l ∷ m ∷ w) h at = omega (arith, past, at, h.0)

  -- a letter behind which no word of n letters is fresh
  pub more-step : (n low l : ℕ) → 0 < n → ((y : List ℕ) → IsFreshFrom a before q y → length y ≡ n + 1 → FirstAtLeast low y → FirstAtLeast l y) → ((y : List ℕ) → IsFreshFrom a (Some l) (next_of a q l) y → length y ≡ n → ⊥) →
      (y : List ℕ) → IsFreshFrom a before q y → length y ≡ n + 1 → FirstAtLeast low y → FirstAtLeast (l + 1) y
  more-step n low l some earlier none [] h len first = h
  more-step n low l some earlier none (s ∷ []) h len first = absurd (omega (arith, some, len))
  more-step n low l some earlier none (k ∷ m ∷ w) h len first =
      let at = earlier (k ∷ m ∷ w) h len first in
      elim (cases_eq k l) [
        | inl same ↦ absurd (none (m ∷ w) (subst (λ (x : ℕ). IsFreshFrom a (Some x) (next_of a q x) (m ∷ w)) same h.1) (omega arith))
        | inr other ↦ omega (arith, at, other)
      ]

  pub more-fresh : (l n : ℕ) (w : List ℕ) → 0 < n → IsLetter a.tracks l → IsFreshFrom a (Some l) (next_of a q l) w → length w ≡ n → IsFreshFrom a before q (l ∷ w)
  more-fresh l n [] some is_l h len = absurd h
  more-fresh l n (m ∷ w) some is_l h len = (is_l, h)

  pub more-least : (n low l : ℕ) (w : List ℕ) → 0 < n → low ≤ l → IsLetter a.tracks l → IsLeastFrom a (Some l) (next_of a q l) n 0 w → ((y : List ℕ) → IsFreshFrom a before q y → length y ≡ n + 1 → FirstAtLeast low y → FirstAtLeast l y) →
      IsLeastFrom a before q (n + 1) low (l ∷ w)
  more-least n low l w some le is_l is earlier = record {
    fresh = more-fresh l n w some is_l is.fresh is.count;
    count = (let len = is.count in omega arith);
    first = le;
    least = λ y h len first. compare y h len (earlier y h len first);
  }
    where
      compare : (y : List ℕ) → IsFreshFrom a before q y → length y ≡ n + 1 → FirstAtLeast l y → (y ≡ l ∷ w) ⊎ IsLexBefore (l ∷ w) y
      compare [] h len first = absurd h
      compare (s ∷ []) h len first = absurd (omega (arith, some, len))
      compare (k ∷ m ∷ u) h len first =
          elim (cases_eq k l) [
            | inr other ↦ inr (inl (omega (arith, first, other)))
            | inl same ↦
                let rest = subst (λ (x : ℕ). IsFreshFrom a (Some x) (next_of a q x) (m ∷ u)) same h.1 in
                elim (is.least (m ∷ u) rest (omega arith) (omega arith)) [
                  | inl tail ↦ inl (ap (λ (x : ℕ). x ∷ m ∷ u) same ∙ ap (λ (v : List ℕ). l ∷ v) tail)
                  | inr later ↦ inr (inr (sym same, later))
                ]
          ]

  -- words after a bound that begin with its first letter
  pub after-tail : (l : ℕ) (bound w : List ℕ) → 0 < length bound → IsLetter a.tracks l → IsLeastAfter a (Some l) (next_of a q l) bound w → IsLeastAfter a before q (l ∷ bound) (l ∷ w)
  after-tail l bound w some is_l is = record {
    fresh = more-fresh l (length bound) w some is_l is.fresh is.count;
    count = ap suc is.count;
    after = inr (refl, is.after);
    least = λ y h len after. compare y h len after;
  }
    where
      compare : (y : List ℕ) → IsFreshFrom a before q y → length y ≡ length (l ∷ bound) → IsLexBefore (l ∷ bound) y → (y ≡ l ∷ w) ⊎ IsLexBefore (l ∷ w) y
      compare [] h len after = absurd h
      compare (s ∷ []) h len after = absurd (omega (arith, some, len))
      compare (k ∷ m ∷ u) h len (inl greater) = inr (inl greater)
      compare (k ∷ m ∷ u) h len (inr rest) =
          let tail = subst (λ (x : ℕ). IsFreshFrom a (Some x) (next_of a q x) (m ∷ u)) (sym rest.0) h.1 in
          elim (is.least (m ∷ u) tail (omega arith) rest.1) [
            | inl same ↦ inl (ap (λ (x : ℕ). x ∷ m ∷ u) (sym rest.0) ∙ ap (λ (v : List ℕ). l ∷ v) same)
            | inr later ↦ inr (inr (rest.0, later))
          ]

  -- where none begins with it, those after the bound begin with a greater letter
  pub after-head : (l : ℕ) (bound y : List ℕ) → ((u : List ℕ) → (0 < length u) → IsFreshFrom a (Some l) (next_of a q l) u → length u ≡ length bound → IsLexBefore bound u → ⊥) → IsFreshFrom a before q y → length y ≡ length (l ∷ bound) → IsLexBefore (l ∷ bound) y → FirstAtLeast (l + 1) y
  after-head l bound [] none h len after = h
  after-head l bound (s ∷ []) none h len (inl greater) = omega (arith, greater)
  after-head l [] (s ∷ []) none h len (inr rest) = absurd rest.1
  after-head l (b ∷ bound) (s ∷ []) none h len (inr rest) = absurd (omega arith)
  after-head l bound (k ∷ m ∷ u) none h len (inl greater) = omega (arith, greater)
  after-head l bound (k ∷ m ∷ u) none h len (inr rest) = absurd (none (m ∷ u) (omega arith) (subst (λ (x : ℕ). IsFreshFrom a (Some x) (next_of a q x) (m ∷ u)) (sym rest.0) h.1) (omega arith) rest.1)

  first-after : (l : ℕ) (bound w : List ℕ) → FirstAtLeast (l + 1) w → IsLexBefore (l ∷ bound) w
  first-after l bound [] first = absurd first
  first-after l bound (k ∷ w) first = inl (omega (arith, first))

  pub after-least : (l : ℕ) (bound w : List ℕ) → ((u : List ℕ) → (0 < length u) → IsFreshFrom a (Some l) (next_of a q l) u → length u ≡ length bound → IsLexBefore bound u → ⊥) → IsLeastFrom a before q (length (l ∷ bound)) (l + 1) w → IsLeastAfter a before q (l ∷ bound) w
  after-least l bound w none is = record {
    fresh = is.fresh;
    count = is.count;
    after = first-after l bound w is.first;
    least = λ y h len after. is.least y h len (after-head l bound y none h len after);
  }

  pub after-none : (l : ℕ) (bound : List ℕ) → ((u : List ℕ) → (0 < length u) → IsFreshFrom a (Some l) (next_of a q l) u → length u ≡ length bound → IsLexBefore bound u → ⊥) → HasNoneFrom a before q (length (l ∷ bound)) (l + 1) → HasNoneAfter a before q (l ∷ bound)
  after-none l bound none is y h len after = is y h len (after-head l bound y none h len after)
