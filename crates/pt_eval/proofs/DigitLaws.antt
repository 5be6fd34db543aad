-- Digits that are put into letters, as components are put into vectors.
use Rattle.std.proofs.Common.{◌≡◌, ℕ, zero, suc, ◌+◌, ◌*◌, ◌/◌, ◌%◌, ◌^◌, ◌<◌, ◌≤◌, List, [], ◌∷◌, length, map, refl, ap, sym, ◌∙◌, arith}
use Rattle.std.specs.Prelude.{ℤ, pos, ◌+ℤ◌, ◌*ℤ◌, insert, unsigned_abs}
use Rattle.std.specs.Int.{int_div_euclid, int_rem_euclid}
use Rattle.std.proofs.lemmas.Nat.{pow_pos, shr-shr, shr_split, mod_low, mod_below}
use Rattle.pt_sets.specs.Words.{Vector, AreLetters, doubled_plus, after_digits}
use Rattle.pt_sets.proofs.Digits.{length-after_digits}
use Rattle.pt_sets.proofs.Halving.{doubled_plus-halves}
use Rattle.pt_project.specs.Projecting.{without}

-- a letter without the digit in track k, that digit, and a letter with a digit put in, by recursion on the track
abbrev pub out : ℕ → ℕ → ℕ
out zero a = a / 2
out (suc k) a = a % 2 + 2 * out k (a / 2)

abbrev pub digit : ℕ → ℕ → ℕ
digit zero a = a % 2
digit (suc k) a = digit k (a / 2)

abbrev pub put : ℕ → ℕ → ℕ → ℕ
put zero d a = d + 2 * a
put (suc k) d a = a % 2 + 2 * put k d (a / 2)

joined-half : (r n : ℕ) → r < 2 → (r + 2 * n) / 2 ≡ n
joined-half r n h = omega arith

joined-digit : (r n : ℕ) → r < 2 → (r + 2 * n) % 2 ≡ r
joined-digit r n h = omega arith

pub out-put : (k d a : ℕ) → d < 2 → out k (put k d a) ≡ a
out-put zero d a h = joined-half d a h
out-put (suc k) d a h =
    let low : a % 2 < 2 = omega arith in
    let whole : a % 2 + 2 * (a / 2) ≡ a = omega arith in
    ap (λ (r : ℕ). r + 2 * out k ((a % 2 + 2 * put k d (a / 2)) / 2)) (joined-digit (a % 2) (put k d (a / 2)) low)
    ∙ ap (λ (b : ℕ). a % 2 + 2 * out k b) (joined-half (a % 2) (put k d (a / 2)) low)
    ∙ ap (λ (b : ℕ). a % 2 + 2 * b) (out-put k d (a / 2) h)
    ∙ whole

pub digit-put : (k d a : ℕ) → d < 2 → digit k (put k d a) ≡ d
digit-put zero d a h = joined-digit d a h
digit-put (suc k) d a h =
    let low : a % 2 < 2 = omega arith in
    ap (digit k) (joined-half (a % 2) (put k d (a / 2)) low) ∙ digit-put k d (a / 2) h

pub double-step : (k : ℕ) → 2 ^ suc k ≡ 2 * 2 ^ k
double-step k = grind arith

pub put-letter : (n k d a : ℕ) → k ≤ n → d < 2 → a < 2 ^ n → put k d a < 2 ^ suc n
put-letter n zero d a h low letter = let e = double-step n in omega (arith, e)
put-letter zero (suc k) d a h low letter = absurd (omega arith)
put-letter (suc n) (suc k) d a h low letter =
    let e = double-step n in
    let f = double-step (suc n) in
    let half : a / 2 < 2 ^ n = omega (arith, e) in
    let rest = put-letter n k d (a / 2) (omega arith) low half in
    omega (arith, f, rest)

-- dropping a digit is the same by powers of two
pub without-out : (k a : ℕ) → without k a ≡ out k a
without-out zero a = let e : a % 2 ^ 0 ≡ 0 = omega arith in let f : a / 2 ^ 1 * 2 ^ 0 ≡ a / 2 = omega arith in omega (arith, e, f)
without-out (suc k) a =
    let b = a / 2 in
    let m = 2 ^ k in
    let top : a / 2 ^ suc (suc k) ≡ b / 2 ^ suc k = (let e : 1 + suc k ≡ suc (suc k) = omega arith in ap (λ (j : ℕ). a / 2 ^ j) (sym e) ∙ sym (shr-shr a 1 (suc k))) in
    let low : b % 2 ^ k < 2 ^ k = mod_below b (2 ^ k) (pow_pos k) in
    let twice = double-step k in
    let split : b / 2 ^ k * 2 ^ k + b % 2 ^ k ≡ b = shr_split b k in
    let digits : a % 2 + 2 * (b % 2 ^ k) < 2 ^ suc k = omega (arith, low, twice) in
    let whole : b / 2 ^ k * 2 ^ suc k + (a % 2 + 2 * (b % 2 ^ k)) ≡ a = doubled (b / 2 ^ k) (2 ^ k) (2 ^ suc k) (b % 2 ^ k) b a twice split refl in
    let rest : a % 2 ^ suc k ≡ a % 2 + 2 * (b % 2 ^ k) = ap (λ (n : ℕ). n % 2 ^ suc k) (sym whole) ∙ mod_low (b / 2 ^ k) (suc k) (a % 2 + 2 * (b % 2 ^ k)) digits in
    ap (λ (n : ℕ). n * 2 ^ suc k + a % 2 ^ suc k) top
    ∙ ap (λ (n : ℕ). b / 2 ^ suc k * 2 ^ suc k + n) rest
    ∙ gathered (b / 2 ^ suc k) (2 ^ k) (2 ^ suc k) (b % 2 ^ k) (a % 2) twice
    ∙ ap (λ (n : ℕ). a % 2 + 2 * n) (without-out k b)
  where
    doubled : (x y z r b a : ℕ) → z ≡ 2 * y → x * y + r ≡ b → b ≡ a / 2 → x * z + (a % 2 + 2 * r) ≡ a
    doubled x y z r b a is split half =
        let e : x * z ≡ 2 * (x * y) = ap (λ (n : ℕ). x * n) is ∙ swapped x y in
        omega (arith, e, split, half)
      where
        swapped : (x y : ℕ) → x * (2 * y) ≡ 2 * (x * y)
        swapped x y = omega arith

    gathered : (x y z r d : ℕ) → z ≡ 2 * y → x * z + (d + 2 * r) ≡ d + 2 * (x * y + r)
    gathered x y z r d is = ap (λ (n : ℕ). x * n + (d + 2 * r)) is ∙ spelled x y r d
      where
        spelled : (x y r d : ℕ) → x * (2 * y) + (d + 2 * r) ≡ d + 2 * (x * y + r)
        spelled x y r d = omega arith

-- a component put into a vector gives its lowest digit to the letter
pub doubled-insert : (k a : ℕ) (u : Vector) (x : ℤ) → k ≤ length u → doubled_plus a (insert u k x) ≡ insert (doubled_plus (out k a) u) k (pos 2 *ℤ x +ℤ pos (digit k a))
doubled-insert zero a u x h = refl
doubled-insert (suc k) a [] x h = absurd (omega arith)
doubled-insert (suc k) a (y ∷ u) x h =
    let o = out k (a / 2) in
    let low : a % 2 < 2 = omega arith in
    ap (λ (z : Vector). (pos 2 *ℤ y +ℤ pos (a % 2)) ∷ z) (doubled-insert k (a / 2) u x (omega arith))
    ∙ ap (λ (b : ℕ). (pos 2 *ℤ y +ℤ pos b) ∷ insert (doubled_plus o u) k (pos 2 *ℤ x +ℤ pos (digit k (a / 2)))) (sym (joined-digit (a % 2) o low))
    ∙ ap (λ (b : ℕ). (pos 2 *ℤ y +ℤ pos ((a % 2 + 2 * o) % 2)) ∷ insert (doubled_plus b u) k (pos 2 *ℤ x +ℤ pos (digit k (a / 2)))) (sym (joined-half (a % 2) o low))

lowest : (x : ℤ) → (y : ℤ) × (d : ℕ) × (d < 2) × (pos 2 *ℤ y +ℤ pos d ≡ x)
lowest x =
    let r = unsigned_abs (int_rem_euclid x (pos 2)) in
    let whole = doubled_plus-halves (x ∷ []) in
    let low : (r + 2 * 0) % 2 < 2 = omega arith in
    let head : pos 2 *ℤ int_div_euclid x (pos 2) +ℤ pos ((r + 2 * 0) % 2) ≡ x = cc in
    (int_div_euclid x (pos 2), (r + 2 * 0) % 2, low, head)

module _ (n k : ℕ) (z : Vector) (short : k ≤ n) (count : length z ≡ n) where
  reaches : (v : List ℕ) → k ≤ length (after_digits v z)
  reaches v = let e = length-after_digits v z in omega (arith, e, count)

  -- a component in front of digits has digits too
  pub split-digits : (v : List ℕ) (x : ℤ) → AreLetters n v →
      (p : List ℕ) × (y : ℤ) × AreLetters (suc n) p × (map (out k) p ≡ v) × (insert (after_digits v z) k x ≡ after_digits p (insert z k y))
  split-digits [] x letters = ([], x, tt, refl, refl)
  split-digits (a ∷ v) x letters =
      let (half, d, low, is) = lowest x in
      let (p, y, more, lost, same) = split-digits v half letters.1 in
      let u = after_digits v z in (
        put k d a ∷ p,
        y,
        (put-letter n k d a short low letters.0, more),
        ap (λ (b : ℕ). b ∷ map (out k) p) (out-put k d a low) ∙ ap (λ (w : List ℕ). a ∷ w) lost,
        ap (insert (doubled_plus a u) k) (sym is)
            ∙ ap (λ (b : ℕ). insert (doubled_plus b u) k (pos 2 *ℤ half +ℤ pos d)) (sym (out-put k d a low))
            ∙ ap (λ (b : ℕ). insert (doubled_plus (out k (put k d a)) u) k (pos 2 *ℤ half +ℤ pos b)) (sym (digit-put k d a low))
            ∙ sym (doubled-insert k (put k d a) u half (reaches v))
            ∙ ap (doubled_plus (put k d a)) same,
      )

  -- and digits in front of a vector with a component are digits in front of the vector, with another component
  pub join-digits : (q : List ℕ) (y : ℤ) → (x : ℤ) × (after_digits q (insert z k y) ≡ insert (after_digits (map (out k) q) z) k x)
  join-digits [] y = (y, refl)
  join-digits (a ∷ q) y =
      let (x, same) = join-digits q y in
      (pos 2 *ℤ x +ℤ pos (digit k a), ap (doubled_plus a) same ∙ doubled-insert k a (after_digits (map (out k) q) z) x (reaches (map (out k) q)))
