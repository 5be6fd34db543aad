-- Restriction of letters and words to some of the tracks.
use Rattle.std.proofs.Common.{◌≡◌, ◌≢◌, ℕ, zero, suc, ◌*◌, ◌/◌, ◌%◌, ◌^◌, ◌<◌, max, List, [], ◌∷◌, ◌++◌, length, lit<, refl, ap, sym, ◌∙◌, subst, arith}
use Rattle.std.specs.Prelude.{bit_or}
use Rattle.std.specs.Int.{bit_at}
use Rattle.std.specs.List.{AllByRecursion}
use Rattle.std.proofs.lemmas.List.{map-append}
use Rattle.std.proofs.lemmas.Nat.{or_lt, pow_pos}
use Rattle.std.proofs.lemmas.Nat.Bits.{bit_at_or, bit_at-lt, bit_at-zero, bit_at-pow_same, bit_at-pow_other}
use Rattle.std.proofs.Math.Pow.{pow-lt}
use Rattle.pt_sets.specs.Words.{IsLetter, AreLetters}
use Rattle.pt_sets.specs.Languages.{Language, SameLanguage, quotient}
use Rattle.pt_sets.specs.Costs.{restricted}
use Rattle.pt_base.specs.Elements.{PairsByRecursion}
use Rattle.pt_sets.specs.Restricting.{IsTrackMap, restricted_all, widened_language}

-- a letter restricts to a letter
pub restricted-letter : (m : List ℕ) (a : ℕ) → restricted m a < 2 ^ length m
restricted-letter [] a = lit< tt
restricted-letter (i ∷ m) a =
    let low = bit_at-lt a i in
    let rest = restricted-letter m a in
    grind arith

pub restricted_all-letters : (m w : List ℕ) → AreLetters (length m) (restricted_all m w)
restricted_all-letters m [] = tt
restricted_all-letters m (a ∷ w) = (restricted-letter m a, restricted_all-letters m w)

pub restricted_all-append : (m v w : List ℕ) → restricted_all m (v ++ w) ≡ restricted_all m v ++ restricted_all m w
restricted_all-append m v w = map-append (restricted m) v w

-- a letter that restricts to b, with 0 in the other tracks
abbrev pub spread : List ℕ → ℕ → ℕ
spread [] b = 0
spread (i ∷ m) b = bit_or (b % 2 * 2 ^ i) (spread m (b / 2))

bit-bounded : (b i t : ℕ) → i < t → b % 2 * 2 ^ i < 2 ^ t
bit-bounded b i t h =
    let bit : b % 2 < 2 = omega arith in
    let below : 2 ^ i < 2 ^ t = pow-lt h in
    grind arith

spread-letter : (t : ℕ) (m : List ℕ) (b : ℕ) → AllByRecursion (λ i. i < t) m → spread m b < 2 ^ t
spread-letter t [] b within = pow_pos t
spread-letter t (i ∷ m) b within = or_lt t (b % 2 * 2 ^ i) (spread m (b / 2)) (bit-bounded b i t within.0) (spread-letter t m (b / 2) within.1)

-- a fact on each item gives another
pub All-map : {X : Type 0} (P Q : X → Type 0) → ((x : X) → P x → Q x) → (xs : List X) → AllByRecursion P xs → AllByRecursion Q xs
All-map P Q h [] all = tt
All-map P Q h (x ∷ xs) all = (h x all.0, All-map P Q h xs all.1)

scaled-same : (c i : ℕ) → c < 2 → bit_at (c * 2 ^ i) i ≡ c
scaled-same zero i h = let none : zero * 2 ^ i ≡ 0 = omega arith in ap (λ (n : ℕ). bit_at n i) none ∙ bit_at-zero i
scaled-same (suc zero) i h = let one : suc zero * 2 ^ i ≡ 2 ^ i = omega arith in ap (λ (n : ℕ). bit_at n i) one ∙ bit_at-pow_same i
scaled-same (suc (suc c)) i h = absurd (omega arith)

scaled-other : (c i j : ℕ) → c < 2 → i ≢ j → bit_at (c * 2 ^ i) j ≡ 0
scaled-other zero i j h other = let none : zero * 2 ^ i ≡ 0 = omega arith in ap (λ (n : ℕ). bit_at n j) none ∙ bit_at-zero j
scaled-other (suc zero) i j h other =
    let one : suc zero * 2 ^ i ≡ 2 ^ i = omega arith in
    let apart : j ≢ i = λ e. other (sym e) in
    ap (λ (n : ℕ). bit_at n j) one ∙ bit_at-pow_other i j apart
scaled-other (suc (suc c)) i j h other = absurd (omega arith)

low-bit : (b : ℕ) → b % 2 < 2
low-bit b = omega arith

-- a spread letter has 0 outside the tracks
pub spread-outside : (m : List ℕ) (b j : ℕ) → AllByRecursion (λ i. i ≢ j) m → bit_at (spread m b) j ≡ 0
spread-outside [] b j apart = bit_at-zero j
spread-outside (i ∷ m) b j apart =
    let first = scaled-other (b % 2) i j (low-bit b) apart.0 in
    let rest = spread-outside m (b / 2) j apart.1 in
    bit_at_or (b % 2 * 2 ^ i) (spread m (b / 2)) j ∙ ap (λ (n : ℕ). max n (bit_at (spread m (b / 2)) j)) first ∙ ap (max 0) rest

restricted-or : (m : List ℕ) (x y : ℕ) → AllByRecursion (λ j. bit_at x j ≡ 0) m → restricted m (bit_or x y) ≡ restricted m y
restricted-or [] x y none = refl
restricted-or (i ∷ m) x y none =
    let here : bit_at (bit_or x y) i ≡ bit_at y i = bit_at_or x y i ∙ ap (λ (n : ℕ). max n (bit_at y i)) none.0 ∙ omega arith in
    let rest = restricted-or m x y none.1 in
    omega (arith, here, rest)

restricted-spread : (m : List ℕ) (b : ℕ) → PairsByRecursion (λ i j. i < j) m → b < 2 ^ length m → restricted m (spread m b) ≡ b
restricted-spread [] b increasing letter = let none : b < 1 = letter in omega arith
restricted-spread (i ∷ m) b increasing letter =
    let x = b % 2 * 2 ^ i in
    let y = spread m (b / 2) in
    let high : b / 2 < 2 ^ length m = grind arith in
    let outside : bit_at y i ≡ 0 = spread-outside m (b / 2) i (All-map (λ j. i < j) (λ j. j ≢ i) (λ j h e. omega arith) m increasing.0) in
    let here : bit_at (bit_or x y) i ≡ b % 2 =
    bit_at_or x y i ∙ ap (λ (n : ℕ). max n (bit_at y i)) (scaled-same (b % 2) i (low-bit b)) ∙ ap (max (b % 2)) outside ∙ omega arith in
    let rest : restricted m (bit_or x y) ≡ b / 2 =
    restricted-or m x y (All-map (λ j. i < j) (λ j. bit_at x j ≡ 0) (λ j h. let apart : i ≢ j = omega arith in scaled-other (b % 2) i j (low-bit b) apart) m increasing.0)
    ∙ restricted-spread m (b / 2) increasing.1 high in
    omega (arith, here, rest)

-- each letter is a restriction
pub restricted-onto : (k t : ℕ) (m : List ℕ) (b : ℕ) → IsTrackMap k t m → IsLetter k b → (a : ℕ) × IsLetter t a × (restricted m a ≡ b)
restricted-onto k t m b fits letter = (
  spread m b,
  spread-letter t m b fits.within,
  restricted-spread m b fits.increasing (subst (λ (n : ℕ). b < 2 ^ n) (sym fits.count) letter),
)

-- each list of letters is a restriction
pub restricted_all-onto : (k t : ℕ) (m v : List ℕ) → IsTrackMap k t m → AreLetters k v → (w : List ℕ) × AreLetters t w × (restricted_all m w ≡ v)
restricted_all-onto k t m [] fits letters = ([], tt, refl)
restricted_all-onto k t m (b ∷ v) fits letters =
    let (a, letter, first) = restricted-onto k t m b fits letters.0 in
    let (w, rest, later) = restricted_all-onto k t m v fits letters.1 in
    (a ∷ w, (letter, rest), ap (λ (c : ℕ). c ∷ restricted_all m w) first ∙ ap (λ (u : List ℕ). b ∷ u) later)

pub restricted-IsLetter : (k t : ℕ) (m : List ℕ) (a : ℕ) → IsTrackMap k t m → IsLetter k (restricted m a)
restricted-IsLetter k t m a fits = subst (λ (n : ℕ). restricted m a < 2 ^ n) fits.count (restricted-letter m a)

pub restricted_all-AreLetters : (k t : ℕ) (m w : List ℕ) → IsTrackMap k t m → AreLetters k (restricted_all m w)
restricted_all-AreLetters k t m w fits = subst (λ (n : ℕ). AreLetters n (restricted_all m w)) fits.count (restricted_all-letters m w)

-- Sets are equal exactly where they are equal over more tracks.

pub widened-same : (k t : ℕ) (m : List ℕ) (X Y : Language) → IsTrackMap k t m → SameLanguage k X Y → SameLanguage t (widened_language m X) (widened_language m Y)
widened-same k t m X Y fits same = record { agrees = λ w s letters sign. same.agrees (restricted_all m w) (restricted m s) (restricted_all-AreLetters k t m w fits) (restricted-IsLetter k t m s fits) }

pub same-widened : (k t : ℕ) (m : List ℕ) (X Y : Language) → IsTrackMap k t m → SameLanguage t (widened_language m X) (widened_language m Y) → SameLanguage k X Y
same-widened k t m X Y fits same = record {
  agrees = λ v b letters sign.
      let (w, words, back) = restricted_all-onto k t m v fits letters in
      let (s, letter, sign_back) = restricted-onto k t m b fits sign in
      ap (λ (u : List ℕ). X u b) (sym back)
      ∙ ap (λ (c : ℕ). X (restricted_all m w) c) (sym sign_back)
      ∙ same.agrees w s words letter
      ∙ ap (λ (c : ℕ). Y (restricted_all m w) c) sign_back
      ∙ ap (λ (u : List ℕ). Y u b) back;
}

-- the residual of a widened set is the widened residual
pub quotient-widened : (t : ℕ) (m : List ℕ) (X : Language) (w : List ℕ) → SameLanguage t (quotient (widened_language m X) w) (widened_language m (quotient X (restricted_all m w)))
quotient-widened t m X w = record { agrees = λ v s letters sign. ap (λ (u : List ℕ). X u (restricted m s)) (restricted_all-append m w v) }

pub SameLanguage-trans : (t : ℕ) (X Y Z : Language) → SameLanguage t X Y → SameLanguage t Y Z → SameLanguage t X Z
SameLanguage-trans t X Y Z first second = record { agrees = λ w s letters sign. first.agrees w s letters sign ∙ second.agrees w s letters sign }

pub SameLanguage-sym : (t : ℕ) (X Y : Language) → SameLanguage t X Y → SameLanguage t Y X
SameLanguage-sym t X Y same = record { agrees = λ w s letters sign. sym (same.agrees w s letters sign) }

-- widened residuals are equal exactly where the residuals by restricted lists are
pub SameQuotient-widened : (k t : ℕ) (m : List ℕ) (X : Language) (v w : List ℕ) → IsTrackMap k t m → SameLanguage k (quotient X (restricted_all m v)) (quotient X (restricted_all m w)) → SameLanguage t (quotient (widened_language m X) v) (quotient (widened_language m X) w)
SameQuotient-widened k t m X v w fits same =
    let Xv = quotient X (restricted_all m v) in
    let Xw = quotient X (restricted_all m w) in
    SameLanguage-trans t _ (widened_language m Xv) _ (quotient-widened t m X v)
    (SameLanguage-trans t _ (widened_language m Xw) _ (widened-same k t m Xv Xw fits same) (SameLanguage-sym t _ _ (quotient-widened t m X w)))

pub SameQuotient-restricted : (k t : ℕ) (m : List ℕ) (X : Language) (v w : List ℕ) → IsTrackMap k t m → SameLanguage t (quotient (widened_language m X) v) (quotient (widened_language m X) w) → SameLanguage k (quotient X (restricted_all m v)) (quotient X (restricted_all m w))
SameQuotient-restricted k t m X v w fits same =
    let Xv = quotient X (restricted_all m v) in
    let Xw = quotient X (restricted_all m w) in
    same-widened k t m Xv Xw fits
    (SameLanguage-trans t _ (quotient (widened_language m X) v) _ (SameLanguage-sym t _ _ (quotient-widened t m X v))
    (SameLanguage-trans t _ (quotient (widened_language m X) w) _ same (quotient-widened t m X w)))
