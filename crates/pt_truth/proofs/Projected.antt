-- The projection of a regular set is regular: the sets of vectors to which some integer in front can be added.
use Rattle.std.proofs.Common.{◌≡◌, ◌⊎◌, inl, inr, ℕ, zero, suc, ◌+◌, ◌*◌, ◌/◌, ◌%◌, ◌^◌, ◌<◌, ◌≤◌, List, [], ◌∷◌, ◌++◌, length, map, refl, ap, sym, ◌∙◌, subst, arith, append_assoc}
use Rattle.std.specs.Prelude.{ℤ, pos, ◌+ℤ◌, ◌*ℤ◌, neg_ℤ, unsigned_abs, ◌↔◌}
use Rattle.std.specs.Int.{int_div_euclid, int_rem_euclid}
use Rattle.std.specs.List.{AllByRecursion}
use Rattle.std.proofs.lemmas.Int.{ints}
use Rattle.std.proofs.lemmas.Bool.{cases_eq}
use Rattle.std.proofs.lemmas.Nat.{div-mul-add, mod-mul-add}
use Rattle.pt_base.specs.Elements.{AnyByRecursion, ContainsByRecursion}
use Rattle.pt_sets.specs.Words.{Vector, IsLetter, AreLetters, doubled_plus, sign_vector, after_digits, value}
use Rattle.pt_sets.specs.Languages.{Encodes}
use Rattle.pt_sets.specs.Sets.{SameSet, residual_by}
use Rattle.pt_sets.specs.Costs.{SameResidual, RestrictsBy}
use Rattle.pt_sets.proofs.Acceptance.{some-word}
use Rattle.pt_sets.proofs.Counting.{residual-equivalence}
use Rattle.pt_sets.proofs.Digits.{length-after_digits, length-sign_vector, doubled_plus-sign_vector, sign_vector-doubled_plus, sign_vector-injective, half-letter}
use Rattle.pt_sets.proofs.WordValues.{value-append}
use Rattle.pt_truth.proofs.Enumerating.{any_decided, any_of, the_one, all_of, all_map}
use Rattle.pt_truth.proofs.Searching.{numbers, over_numbers, numbers_below, search_behind}
use Rattle.pt_truth.proofs.Connectives.{IsRegular, after_digits-append, residuals_followed}
use Rattle.pt_truth.proofs.Families.{extensions, extensions_have, extensions_only, Includes, family_finite}
use Rattle.pt_truth.proofs.Integers.{half, digit, digit_small, halved}
use Rattle.pt_truth.proofs.Regular.{IsFinite}

-- a letter of one more track in front, without the digit of that track
abbrev pub dropped : ℕ → ℕ
dropped a = a / 2

parts : {A : Type 0} (x y : A) (xs ys : List A) → x ∷ xs ≡ y ∷ ys → (x ≡ y) × (xs ≡ ys)
parts x y xs ys h = ((cc), (cc))

-- an integer in front of digits and a vector goes behind digits of its own
pub lifted : (t : ℕ) (v : List ℕ) (k : ℤ) (z : Vector) → AreLetters t v →
    (u : List ℕ) × (h : ℤ) × AreLetters (suc t) u × (map dropped u ≡ v) × (k ∷ after_digits v z ≡ after_digits u (h ∷ z))
lifted t [] k z letters = ([], k, tt, refl, refl)
lifted t (a ∷ v) k z letters =
    let h = half k in
    let d = digit k in
    let small = digit_small k in
    let whole = halved k in
    let (u, g, u_letters, back, same) = lifted t v h z letters.1 in
    let b = a * 2 + d in
    let low : b % 2 ≡ d = mod-mul-add a 2 d small in
    let high : b / 2 ≡ a = div-mul-add a 2 d small in (
      b ∷ u,
      g,
      (letter t a d letters.0 small, u_letters),
      ap (λ (x : ℕ). x ∷ map dropped u) high ∙ ap (λ (x : List ℕ). a ∷ x) back,
      ap (λ (x : ℤ). x ∷ doubled_plus a (after_digits v z)) (sym whole)
          ∙ ap (λ (x : ℕ). (pos 2 *ℤ h +ℤ pos x) ∷ doubled_plus a (after_digits v z)) (sym low)
          ∙ ap (λ (x : ℕ). (pos 2 *ℤ h +ℤ pos (b % 2)) ∷ doubled_plus x (after_digits v z)) (sym high)
          ∙ ap (doubled_plus b) same,
    )
  where
    letter : (t a d : ℕ) → a < 2 ^ t → d < 2 → a * 2 + d < 2 ^ suc t
    letter t a d h k = grind arith

-- digits in front of an integer and a vector are an integer in front of the other digits
pub put_back : (u : List ℕ) (h : ℤ) (z : Vector) → (k : ℤ) × (k ∷ after_digits (map dropped u) z ≡ after_digits u (h ∷ z))
put_back [] h z = (h, refl)
put_back (b ∷ u) h z =
    let (k, same) = put_back u h z in
    (pos 2 *ℤ k +ℤ pos (b % 2), ap (doubled_plus b) same)

-- the vectors to which some integer in front can be added
abbrev pub Projection : (Vector → Type 0) → Vector → Type 0
Projection X z = (k : ℤ) × X (k ∷ z)

-- ---- signs

-- letters that are a sign without the digit in front keep the vector of the sign
signs_stay : (t s : ℕ) (x : List ℕ) → AllByRecursion (λ a. dropped a ≡ s) x → after_digits (map dropped x) (sign_vector t s) ≡ sign_vector t s
signs_stay t s [] all = refl
signs_stay t s (a ∷ x) all =
    ap (doubled_plus (dropped a)) (signs_stay t s x all.1) ∙ ap (λ (b : ℕ). doubled_plus b (sign_vector t s)) all.0 ∙ doubled_plus-sign_vector t s

-- letters whose digits keep the vector of a sign are the sign, each
signs_only : (t s : ℕ) (x : List ℕ) (r : ℕ) → IsLetter t s → AreLetters (suc t) x → IsLetter (suc t) r → after_digits (map dropped x) (sign_vector t (dropped r)) ≡ sign_vector t s →
    AllByRecursion (λ a. dropped a ≡ s) x × (dropped r ≡ s)
signs_only t s [] r sign letters last e = (tt, sign_vector-injective t (dropped r) s (half-letter t r last) sign e)
signs_only t s (a ∷ x) r sign letters last e =
    let z = after_digits (map dropped x) (sign_vector t (dropped r)) in
    let count : length z ≡ t = length-after_digits (map dropped x) (sign_vector t (dropped r)) ∙ length-sign_vector t (dropped r) in
    let (first, rest) = sign_vector-doubled_plus t s (dropped a) z sign (half-letter t a letters.0) count (sym e) in
    let (others, end) = signs_only t s x r sign letters.1 last (sym rest) in
    ((sym first, others), end)

-- the two letters of one more track in front of a sign
abbrev pub with_sign : ℕ → List ℕ
with_sign s = (s * 2) ∷ (s * 2 + 1) ∷ []

in_with_sign : (s a : ℕ) → dropped a ≡ s → ContainsByRecursion a (with_sign s)
in_with_sign s a e =
    elim (cases_eq (a % 2) 0) [
      | inl even ↦ inl (omega arith)
      | inr odd ↦ inr (inl (omega arith))
    ]

dropped_with_sign : (s a : ℕ) → ContainsByRecursion a (with_sign s) → dropped a ≡ s
dropped_with_sign s a (inl e) = omega arith
dropped_with_sign s a (inr (inl e)) = omega arith
dropped_with_sign s a (inr (inr none)) = absurd none

with_sign_letters : (t s : ℕ) → IsLetter t s → AllByRecursion (IsLetter (suc t)) (with_sign s)
with_sign_letters t s h =
    let twice : 2 ^ suc t ≡ 2 * 2 ^ t = grind arith in
    (omega arith, (omega arith, tt))

either_decided : {P Q : Type 0} → P ⊎ (¬ P) → Q ⊎ (¬ Q) → (P ⊎ Q) ⊎ (¬ (P ⊎ Q))
either_decided (inl p) q = inl (inl p)
either_decided (inr n) (inl q) = inl (inr q)
either_decided (inr n) (inr m) = inr (λ k. elim k [ inl p ↦ n p | inr q ↦ m q ])

module _ (t : ℕ) (X : Vector → Type 0) (regular : IsRegular (suc t) X) where
  same : List ℕ → List ℕ → Type 0
  same = SameResidual (suc t) X

  -- where each residual of one family is one of the other, so is what can be added
  moved : (v w : List ℕ) → AreLetters t v → Includes (SameResidual (suc t) X) (suc t) regular.residuals dropped v w →
      (z : Vector) → length z ≡ t → Projection X (after_digits v z) → Projection X (after_digits w z)
  moved v w v_letters includes z count (k, is_in) =
      let (u, h, u_letters, back, lifts) = lifted t v k z v_letters in
      let (q, restricts, met) = includes u (u_letters, back) in
      let there = (met.agrees (h ∷ z) (ap suc count)).0 (subst X lifts is_in) in
      let (g, puts) = put_back q h z in
      (g, subst (λ (x : List ℕ). X (g ∷ after_digits x z)) restricts.1 (subst X (sym puts) there))

  projected_finite : IsFinite (SameResidual t (Projection X)) t
  projected_finite =
      let family = family_finite (SameResidual (suc t) X) (suc t) regular.residuals dropped t in
      record {
        count = family.count;
        class = family.class;
        below = family.below;
        of_one = λ v w v_letters w_letters e.
            let met = family.of_one v w v_letters w_letters e in
            record { agrees = λ z count. (moved v w v_letters met.0 z count, moved w v w_letters met.1 z count) };
        followed = residuals_followed t (Projection X);
      }

  -- the letters and one of the two signs over s are a word of a member
  Ends : ℕ → List ℕ → Type 0
  Ends s y = X (after_digits y (sign_vector (suc t) (s * 2))) ⊎ X (after_digits y (sign_vector (suc t) (s * 2 + 1)))

  ends_decided : (s : ℕ) (y : List ℕ) → Ends s y ⊎ (¬ Ends s y)
  unfolding Ends
  ends_decided s y =
      either_decided
      (regular.decided (after_digits y (sign_vector (suc t) (s * 2))) (length-after_digits y (sign_vector (suc t) (s * 2)) ∙ length-sign_vector (suc t) (s * 2)))
      (regular.decided (after_digits y (sign_vector (suc t) (s * 2 + 1))) (length-after_digits y (sign_vector (suc t) (s * 2 + 1)) ∙ length-sign_vector (suc t) (s * 2 + 1)))

  ends_move : (s : ℕ) (v w : List ℕ) → SameResidual (suc t) X v w → Ends s v → Ends s w
  unfolding Ends
  ends_move s v w met (inl h) = inl ((met.agrees (sign_vector (suc t) (s * 2)) (length-sign_vector (suc t) (s * 2))).0 h)
  ends_move s v w met (inr h) = inr ((met.agrees (sign_vector (suc t) (s * 2 + 1)) (length-sign_vector (suc t) (s * 2 + 1))).0 h)

  -- a letter at which the word of a member ends
  end_at : (s : ℕ) (y : List ℕ) → Ends s y → (r : ℕ) × (dropped r ≡ s) × X (after_digits y (sign_vector (suc t) r))
  unfolding Ends
  end_at s y (inl h) = (s * 2, omega arith, h)
  end_at s y (inr h) = (s * 2 + 1, omega arith, h)

  at_end : (s r : ℕ) (y : List ℕ) → dropped r ≡ s → X (after_digits y (sign_vector (suc t) r)) → Ends s y
  unfolding Ends
  at_end s r y e h =
      elim (in_with_sign s r e) [
        | inl same ↦ inl (subst (λ (b : ℕ). X (after_digits y (sign_vector (suc t) b))) same h)
        | inr other ↦ elim other [
          | inl same ↦ inr (subst (λ (b : ℕ). X (after_digits y (sign_vector (suc t) b))) same h)
          | inr none ↦ absurd none
        ]
      ]

  -- behind u there are letters over the sign with which it ends
  Goes_on : ℕ → List ℕ → Type 0
  Goes_on s u = (x : List ℕ) × AllByRecursion (λ a. ContainsByRecursion a (with_sign s)) x × Ends s (u ++ x)

  goes_on_decided : (s : ℕ) (u : List ℕ) → IsLetter t s → AreLetters (suc t) u → Goes_on s u ⊎ (¬ Goes_on s u)
  unfolding Goes_on
  goes_on_decided s u sign letters =
      elim (search_behind (SameResidual (suc t) X) (suc t) regular.residuals (residual-equivalence (suc t) X) (Ends s) (ends_move s) (λ w h. ends_decided s w) (with_sign s) u (with_sign_letters t s sign) letters) [
        | inl found ↦ inl found
        | inr none ↦ inr (λ (x, over, ends). none x over ends)
      ]

  added : (s : ℕ) (u w : List ℕ) → map dropped u ≡ w → Goes_on s u → Projection X (after_digits w (sign_vector t s))
  unfolding Goes_on
  added s u w back (x, over, ends) =
      let (r, e, is_in) = end_at s (u ++ x) ends in
      let all = all_map (λ a. ContainsByRecursion a (with_sign s)) (λ a. dropped a ≡ s) x (dropped_with_sign s) over in
      let (h, inner) = put_back x (neg_ℤ (pos (r % 2))) (sign_vector t (dropped r)) in
      let stays = ap (λ (b : ℕ). after_digits (map dropped x) (sign_vector t b)) e ∙ signs_stay t s x all in
      let whole = ap (λ (z : Vector). h ∷ z) (sym stays) ∙ inner in
      let (k, outer) = put_back u h (sign_vector t s) in (
        k,
        subst (λ (v : List ℕ). X (k ∷ after_digits v (sign_vector t s))) back
            (subst X (sym (outer ∙ ap (after_digits u) whole ∙ sym (after_digits-append u x (sign_vector (suc t) r)))) is_in),
      )

  continued : (s : ℕ) (u : List ℕ) (h : ℤ) → IsLetter t s → X (after_digits u (h ∷ sign_vector t s)) → Goes_on s u
  unfolding Goes_on
  continued s u h sign is_in =
      let count : length (h ∷ sign_vector t s) ≡ suc t = ap suc (length-sign_vector t s) in
      let (x, r, encodes) = some-word (h ∷ sign_vector t s) in
      let letters = subst (λ (n : ℕ). AreLetters n x) count encodes.letters in
      let last = subst (λ (n : ℕ). IsLetter n r) count encodes.sign in
      let meaning = subst (λ (n : ℕ). value n (x ++ r ∷ []) ≡ h ∷ sign_vector t s) count encodes.meaning in
      let word : after_digits x (sign_vector (suc t) r) ≡ h ∷ sign_vector t s = sym (value-append (suc t) x (r ∷ []) (omega arith)) ∙ meaning in
      let (k, puts) = put_back x (neg_ℤ (pos (r % 2))) (sign_vector t (dropped r)) in
      let (head, tail) = parts k h (after_digits (map dropped x) (sign_vector t (dropped r))) (sign_vector t s) (puts ∙ word) in
      let (all, end) = signs_only t s x r sign letters last tail in (
        x,
        all_map (λ a. dropped a ≡ s) (λ a. ContainsByRecursion a (with_sign s)) x (in_with_sign s) all,
        at_end s r (u ++ x) end (subst X (sym (after_digits-append u x (sign_vector (suc t) r) ∙ ap (after_digits u) word)) is_in),
      )

  at_word : (w : List ℕ) (s : ℕ) → AreLetters t w → IsLetter t s → Projection X (after_digits w (sign_vector t s)) ⊎ (¬ Projection X (after_digits w (sign_vector t s)))
  at_word w s letters sign =
      let all = numbers (2 ^ suc t) in
      let lists = extensions dropped all w in
      let own = extensions_only dropped (IsLetter (suc t)) all w (numbers_below (2 ^ suc t) (2 ^ suc t) (omega arith)) in
      let each = all_map (λ u. AreLetters (suc t) u × (map dropped u ≡ w)) (λ u. Goes_on s u ⊎ (¬ Goes_on s u)) lists (λ u h. goes_on_decided s u sign h.0) own in
      elim (any_decided (Goes_on s) lists each) [
        | inl found ↦
            let (u, among, goes) = the_one (Goes_on s) lists found in
            let restricts = all_of (λ u. AreLetters (suc t) u × (map dropped u ≡ w)) u lists among own in
            inl (added s u w restricts.1 goes)
        | inr none ↦
            inr (λ (k, is_in).
            let (u, h, u_letters, back, lifts) = lifted t w k (sign_vector t s) letters in
            let among = subst (λ (v : List ℕ). ContainsByRecursion u (extensions dropped all v)) back (extensions_have dropped all u (over_numbers (2 ^ suc t) u u_letters)) in
            none (any_of (Goes_on s) u lists among (continued s u h sign (subst X lifts is_in))))
      ]

  pub projected : IsRegular t (Projection X)
  projected = record {
    residuals = projected_finite;
    decided = λ z count.
        let (w, s, encodes) = some-word z in
        let letters = subst (λ (n : ℕ). AreLetters n w) count encodes.letters in
        let sign = subst (λ (n : ℕ). IsLetter n s) count encodes.sign in
        let meaning = subst (λ (n : ℕ). value n (w ++ s ∷ []) ≡ z) count encodes.meaning in
        let word : after_digits w (sign_vector t s) ≡ z = sym (value-append t w (s ∷ []) (omega arith)) ∙ meaning in
        subst (λ (y : Vector). Projection X y ⊎ (¬ Projection X y)) word (at_word w s letters sign);
  }
