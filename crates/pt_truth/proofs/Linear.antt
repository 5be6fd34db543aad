-- Linear sums over vectors: the sets where a sum is at most a number, is one, or is congruent to one, are regular.
use Rattle.std.proofs.Common.{◌≡◌, ◌⊎◌, inl, inr, ℕ, zero, suc, ◌+◌, ◌*◌, ◌/◌, ◌%◌, ◌^◌, ◌<◌, ◌≤◌, Bool, true, false, eq-eqb, List, [], ◌∷◌, length, refl, ap, sym, ◌∙◌, subst, arith}
use Rattle.std.specs.Prelude.{ℤ, pos, ◌+ℤ◌, ◌-ℤ◌, ◌*ℤ◌, ◌≤ℤ◌, unsigned_abs, ◌↔◌, ◌==◌, if◌then◌else◌}
use Rattle.std.proofs.lemmas.Int.{ints}
use Rattle.std.proofs.lemmas.Bool.{cases_eq, cases_Bool}
use Rattle.std.proofs.lemmas.Bool.Decides.{nat_tests}
use Rattle.pt_atoms.specs.Sums.{Congruent}
use Rattle.pt_sets.specs.Words.{Vector, IsLetter, AreLetters, doubled_plus, after_digits}
use Rattle.pt_sets.specs.Costs.{SameResidual}
use Rattle.pt_sets.proofs.Digits.{length-after_digits}
use Rattle.pt_truth.proofs.Integers.{half, digit, digit_small, halved, le_or_not, equal_or_not, remainder, congruent_sum, congruent_sym, congruent_trans, congruent_test, congruent_remainder}
use Rattle.pt_truth.proofs.Families.{code, code_below, code_injective}
use Rattle.pt_truth.proofs.Connectives.{IsRegular, residuals_followed}
use Rattle.pt_truth.proofs.Regular.{IsFinite}

-- half of what is left of e below a digit's part stays within a bound
half_within : (e d : ℤ) (bound : ℕ) → unsigned_abs e ≤ bound → unsigned_abs d ≤ bound → unsigned_abs (half (e -ℤ d)) ≤ bound
half_within e d bound h k =
    let small = digit_small (e -ℤ d) in
    let whole = halved (e -ℤ d) in
    within (half (e -ℤ d)) (digit (e -ℤ d)) e d bound small whole h k
  where
    within : (x : ℤ) (r : ℕ) (e d : ℤ) (bound : ℕ) → r < 2 → (pos 2 *ℤ x +ℤ pos r) ≡ (e -ℤ d) → unsigned_abs e ≤ bound → unsigned_abs d ≤ bound → unsigned_abs x ≤ bound
    within x r e d bound small whole h k = omega (arith, ints)

-- a number within a bound as a natural number, which determines it
shifted : ℕ → ℤ → ℕ
shifted bound x = unsigned_abs (x +ℤ pos bound)

shifted_below : (bound : ℕ) (x : ℤ) → unsigned_abs x ≤ bound → shifted bound x < 2 * bound + 1
unfolding shifted
shifted_below bound x h = omega (arith, ints)

shifted_injective : (bound : ℕ) (x y : ℤ) → unsigned_abs x ≤ bound → unsigned_abs y ≤ bound → shifted bound x ≡ shifted bound y → x ≡ y
unfolding shifted
shifted_injective bound x y h k e = omega (arith, ints)

module _ (t : ℕ) (L : Vector → ℤ) (D : ℕ → ℤ) (step : (a : ℕ) (z : Vector) → length z ≡ t → L (doubled_plus a z) ≡ pos 2 *ℤ L z +ℤ D a) where
  -- the sizes of the parts of the letters below n, together
  parts : ℕ → ℕ
  parts zero = 0
  parts (suc n) = unsigned_abs (D n) + parts n

  part_within : (n a : ℕ) → a < n → unsigned_abs (D a) ≤ parts n
  unfolding parts
  part_within zero a h = absurd (omega arith)
  part_within (suc n) a h =
      elim (cases_eq a n) [
        | inl same ↦ subst (λ (b : ℕ). unsigned_abs (D b) ≤ unsigned_abs (D n) + parts n) (sym same) (omega arith)
        | inr other ↦ let before = part_within n a (omega arith) in omega arith
      ]

  -- what is left of e after letters
  left : ℤ → List ℕ → ℤ
  left e [] = e
  left e (a ∷ w) = left (half (e -ℤ D a)) w

  left_within : (bound : ℕ) → parts (2 ^ t) ≤ bound → (e : ℤ) (w : List ℕ) → unsigned_abs e ≤ bound → AreLetters t w → unsigned_abs (left e w) ≤ bound
  unfolding left
  left_within bound h e [] k letters = k
  left_within bound h e (a ∷ w) k letters =
      let here = part_within (2 ^ t) a letters.0 in
      left_within bound h (half (e -ℤ D a)) w (half_within e (D a) bound k (omega arith)) letters.1

  -- ---- at most

  at_most_once : (e l d : ℤ) → ((pos 2 *ℤ l +ℤ d) ≤ℤ e) ↔ (l ≤ℤ half (e -ℤ d))
  at_most_once e l d =
      let small = digit_small (e -ℤ d) in
      let whole = halved (e -ℤ d) in
      both (half (e -ℤ d)) (digit (e -ℤ d)) small whole
    where
      both : (x : ℤ) (r : ℕ) → r < 2 → (pos 2 *ℤ x +ℤ pos r) ≡ (e -ℤ d) → ((pos 2 *ℤ l +ℤ d) ≤ℤ e) ↔ (l ≤ℤ x)
      both x r small whole = (λ h. omega (arith, ints), λ h. omega (arith, ints))

  at_most_left : (e : ℤ) (w : List ℕ) (z : Vector) → length z ≡ t → (L (after_digits w z) ≤ℤ e) ↔ (L z ≤ℤ left e w)
  unfolding left
  at_most_left e [] z count = (λ h. h, λ h. h)
  at_most_left e (a ∷ w) z count =
      let y = after_digits w z in
      let here = step a y (length-after_digits w z ∙ count) in
      let once = at_most_once e (L y) (D a) in
      let rest = at_most_left (half (e -ℤ D a)) w z count in (
        λ h. rest.0 (once.0 (subst (λ (x : ℤ). x ≤ℤ e) here h)),
        λ h. subst (λ (x : ℤ). x ≤ℤ e) (sym here) (once.1 (rest.1 h)),
      )

  pub at_most_regular : (c : ℤ) → IsRegular t (λ z. L z ≤ℤ c)
  at_most_regular c =
      let bound = unsigned_abs c + parts (2 ^ t) in
      let within = λ (w : List ℕ) (letters : AreLetters t w). left_within bound (omega arith) c w (omega arith) letters in
      record {
        residuals = record {
          count = 2 * bound + 1;
          class = λ w. shifted bound (left c w);
          below = λ w letters. shifted_below bound (left c w) (within w letters);
          of_one = λ v w v_letters w_letters e.
              let same = shifted_injective bound (left c v) (left c w) (within v v_letters) (within w w_letters) e in
              record {
                agrees = λ z count.
                    let first = at_most_left c v z count in
                    let second = at_most_left c w z count in
                    (λ h. second.1 (subst (λ (x : ℤ). L z ≤ℤ x) same (first.0 h)), λ h. first.1 (subst (λ (x : ℤ). L z ≤ℤ x) (sym same) (second.0 h)));
              };
          followed = residuals_followed t (λ z. L z ≤ℤ c);
        };
        decided = λ z count. le_or_not (L z) c;
      }

  -- ---- equal

  -- whether what is left of e stays whole
  whole : ℤ → List ℕ → Bool
  whole e [] = true
  whole e (a ∷ w) = if digit (e -ℤ D a) == 0 then whole (half (e -ℤ D a)) w else false

  equal_once : (e l d : ℤ) → digit (e -ℤ d) ≡ 0 → ((pos 2 *ℤ l +ℤ d) ≡ e) ↔ (l ≡ half (e -ℤ d))
  equal_once e l d even = both (half (e -ℤ d)) (digit (e -ℤ d)) even (halved (e -ℤ d))
    where
      both : (x : ℤ) (r : ℕ) → r ≡ 0 → (pos 2 *ℤ x +ℤ pos r) ≡ (e -ℤ d) → ((pos 2 *ℤ l +ℤ d) ≡ e) ↔ (l ≡ x)
      both x r even half_is = (λ h. omega (arith, ints), λ h. omega (arith, ints))

  never_equal : (e l d : ℤ) → (¬ (digit (e -ℤ d) ≡ 0)) → ¬ ((pos 2 *ℤ l +ℤ d) ≡ e)
  never_equal e l d odd h = apart (half (e -ℤ d)) (digit (e -ℤ d)) odd (digit_small (e -ℤ d)) (halved (e -ℤ d))
    where
      apart : (x : ℤ) (r : ℕ) → (¬ (r ≡ 0)) → r < 2 → (pos 2 *ℤ x +ℤ pos r) ≡ (e -ℤ d) → ⊥
      apart x r odd small half_is = let one : r ≡ 1 = omega arith in omega (arith, ints)

  equal_left : (e : ℤ) (w : List ℕ) (z : Vector) → length z ≡ t → (L (after_digits w z) ≡ e) ↔ ((whole e w ≡ true) × (L z ≡ left e w))
  unfolding whole left
  equal_left e [] z count = (λ h. (refl, h), λ h. h.1)
  equal_left e (a ∷ w) z count =
      let y = after_digits w z in
      let here = step a y (length-after_digits w z ∙ count) in
      let rest = equal_left (half (e -ℤ D a)) w z count in
      elim (cases_eq (digit (e -ℤ D a)) 0) [
        | inl even ↦
            let once = equal_once e (L y) (D a) even in
            let test : (digit (e -ℤ D a) == 0) ≡ true = grind (arith, nat_tests) in
            let kept = ap (λ (b : Bool). if b then whole (half (e -ℤ D a)) w else false) test in (
              λ h. let k = rest.0 (once.0 (sym here ∙ h)) in (kept ∙ k.0, k.1),
              λ h. here ∙ once.1 (rest.1 (sym kept ∙ h.0, h.1)),
            )
        | inr odd ↦
            let test : (digit (e -ℤ D a) == 0) ≡ false = grind (arith, nat_tests) in
            let gone = ap (λ (b : Bool). if b then whole (half (e -ℤ D a)) w else false) test in (
              λ h. absurd (never_equal e (L y) (D a) odd (sym here ∙ h)),
              λ h. absurd (apart (sym gone ∙ h.0)),
            )
      ]
    where
      apart : false ≡ true → ⊥
      apart e = cc

  -- 0 where nothing whole is left, and else one more than what is left
  equal_class : ℕ → Bool → ℤ → ℕ
  equal_class bound true x = suc (shifted bound x)
  equal_class bound false x = 0

  equal_class_below : (bound : ℕ) (b : Bool) (x : ℤ) → unsigned_abs x ≤ bound → equal_class bound b x < 2 * bound + 2
  unfolding equal_class
  equal_class_below bound true x h = let less = shifted_below bound x h in omega arith
  equal_class_below bound false x h = omega arith

  equal_moved : (bound : ℕ) (l : ℤ) (b d : Bool) (x y : ℤ) → unsigned_abs x ≤ bound → unsigned_abs y ≤ bound → equal_class bound b x ≡ equal_class bound d y → (b ≡ true) × (l ≡ x) → (d ≡ true) × (l ≡ y)
  unfolding equal_class
  equal_moved bound l true true x y h k e held = let less : shifted bound x ≡ shifted bound y = omega arith in (refl, held.1 ∙ shifted_injective bound x y h k less)
  equal_moved bound l true false x y h k e held = absurd (omega arith)
  equal_moved bound l false d x y h k e held = absurd (apart held.0)
    where
      apart : false ≡ true → ⊥
      apart e = cc

  pub equal_regular : (c : ℤ) → IsRegular t (λ z. L z ≡ c)
  equal_regular c =
      let bound = unsigned_abs c + parts (2 ^ t) in
      let within = λ (w : List ℕ) (letters : AreLetters t w). left_within bound (omega arith) c w (omega arith) letters in
      record {
        residuals = record {
          count = 2 * bound + 2;
          class = λ w. equal_class bound (whole c w) (left c w);
          below = λ w letters. equal_class_below bound (whole c w) (left c w) (within w letters);
          of_one = λ v w v_letters w_letters e.
              record {
                agrees = λ z count.
                    let first = equal_left c v z count in
                    let second = equal_left c w z count in (
                      λ h. second.1 (equal_moved bound (L z) (whole c v) (whole c w) (left c v) (left c w) (within v v_letters) (within w w_letters) e (first.0 h)),
                      λ h. first.1 (equal_moved bound (L z) (whole c w) (whole c v) (left c w) (left c v) (within w w_letters) (within v v_letters) (sym e) (second.0 h)),
                    );
              };
          followed = residuals_followed t (λ z. L z ≡ c);
        };
        decided = λ z count. equal_or_not (L z) c;
      }

  -- ---- congruent

  module _ (m : ℕ) (above : 0 < m) where
    -- what the digits of letters make of a number, modulo m
    made : List ℕ → ℕ → ℕ
    made [] x = x
    made (a ∷ w) x = 2 * made w x + (remainder m above (D a)).0

    made_congruent : (w : List ℕ) (z : Vector) (x : ℕ) → length z ≡ t → Congruent m (L z) (pos x) → Congruent m (L (after_digits w z)) (pos (made w x))
    unfolding made
    made_congruent [] z x count h = h
    made_congruent (a ∷ w) z x count h =
        let y = after_digits w z in
        let here = step a y (length-after_digits w z ∙ count) in
        let rest = made_congruent w z x count h in
        let (r, small, same) = remainder m above (D a) in
        let twice = congruent_sum m (L y) (pos (made w x)) (L y) (pos (made w x)) rest rest in
        let all = congruent_sum m (L y +ℤ L y) (pos (made w x) +ℤ pos (made w x)) (D a) (pos r) twice same in
        let before : L (doubled_plus a y) ≡ (L y +ℤ L y) +ℤ D a = here ∙ double (L y) (D a) in
        let after : ((pos (made w x) +ℤ pos (made w x)) +ℤ pos r) ≡ pos (2 * made w x + r) = omega (arith, ints) in
        subst (λ (l : ℤ). Congruent m l (pos (2 * made w x + r))) (sym before) (subst (λ (l : ℤ). Congruent m ((L y +ℤ L y) +ℤ D a) l) after all)
      where
        double : (l d : ℤ) → (pos 2 *ℤ l +ℤ d) ≡ ((l +ℤ l) +ℤ d)
        double l d = omega (arith, ints)

    -- whether a number with these digits has the remainder r
    has_remainder : ℕ → List ℕ → ℕ → Bool
    has_remainder r w x = made w x % m == r

    remainder_test : (c : ℤ) (w : List ℕ) (z : Vector) (x : ℕ) → length z ≡ t → Congruent m (L z) (pos x) → Congruent m (L (after_digits w z)) c ↔ (has_remainder (remainder m above c).0 w x ≡ true)
    unfolding has_remainder
    remainder_test c w z x count h =
        let (r, small, same) = remainder m above c in
        let there = made_congruent w z x count h in (
          λ k. eq-eqb (made w x % m) r (congruent_test m (made w x) r above small
              (congruent_trans m (pos (made w x)) c (pos r) (congruent_trans m (pos (made w x)) (L (after_digits w z)) c (congruent_sym m (L (after_digits w z)) (pos (made w x)) there) k) same)),
          λ k.
              let e : made w x % m ≡ r = grind (arith, nat_tests) in
              let near = congruent_remainder m (made w x) above in
              let ends = subst (λ (n : ℕ). Congruent m (pos (made w x)) (pos n)) e near in
              congruent_trans m (L (after_digits w z)) (pos (made w x)) c there (congruent_trans m (pos (made w x)) (pos r) c ends (congruent_sym m c (pos r) same)),
        )

    congruent_moved : (c : ℤ) (v w : List ℕ) → ((x : ℕ) → x < m → has_remainder (remainder m above c).0 v x ≡ has_remainder (remainder m above c).0 w x) →
        (z : Vector) → length z ≡ t → Congruent m (L (after_digits v z)) c → Congruent m (L (after_digits w z)) c
    congruent_moved c v w tests z count h =
        let (x, small, same) = remainder m above (L z) in
        (remainder_test c w z x count same).1 (sym (tests x small) ∙ (remainder_test c v z x count same).0 h)

    congruent_decided : (c : ℤ) (z : Vector) → length z ≡ t → Congruent m (L z) c ⊎ (¬ Congruent m (L z) c)
    congruent_decided c z count =
        let (x, small, same) = remainder m above (L z) in
        let test = remainder_test c [] z x count same in
        elim (cases_Bool (has_remainder (remainder m above c).0 [] x)) [
          | inl yes_r ↦ inl (test.1 yes_r)
          | inr no_r ↦ inr (λ h. apart (sym no_r ∙ test.0 h))
        ]
      where
        apart : false ≡ true → ⊥
        apart e = cc

    pub congruent_regular : (c : ℤ) → IsRegular t (λ z. Congruent m (L z) c)
    congruent_regular c = record {
      residuals = record {
        count = 2 ^ m;
        class = λ w. code (has_remainder (remainder m above c).0 w) m;
        below = λ w letters. code_below (has_remainder (remainder m above c).0 w) m;
        of_one = λ v w v_letters w_letters e.
            let r = (remainder m above c).0 in
            let tests = code_injective (has_remainder r v) (has_remainder r w) m e in
            record {
              agrees = λ z count. (
                congruent_moved c v w tests z count,
                congruent_moved c w v (λ x h. sym (tests x h)) z count,
              );
            };
        followed = residuals_followed t (λ z. Congruent m (L z) c);
      };
      decided = congruent_decided c;
    }
