-- Values of words.
use Rattle.std.proofs.Common.{◌≡◌, ℕ, zero, suc, ◌+◌, ◌*◌, ◌/◌, ◌%◌, ◌^◌, ◌<◌, List, [], ◌∷◌, ◌++◌, length, refl, ap, sym, ◌∙◌, arith, Some, length-append}
use Rattle.std.specs.Prelude.{ℤ, pos, ◌+ℤ◌, ◌-ℤ◌, ◌*ℤ◌, neg_ℤ, negsuc, sum_by, slice_get, slice_index}
use Rattle.std.specs.Int.{bit_at}
use Rattle.std.specs.List.{range_with_len}
use Rattle.std.proofs.lemmas.Int.{ints}
use Rattle.std.proofs.lemmas.Nat.Bits.{bit_at-suc, bit_at_lowest, bit_at-lt}
use Rattle.std.proofs.lemmas.List.Sums.{sum_by-cons}
use Rattle.pt_sets.specs.Words.{Vector, doubled_plus, sign_vector, after_digits, value, number, digits}
use Rattle.pt_sets.specs.Costs.{restricted}
use Rattle.pt_sets.proofs.Digits.{length-doubled_plus, length-sign_vector}

pub length-value : (t : ℕ) (w : List ℕ) → length (value t w) ≡ t
length-value t [] = length-sign_vector t 0
length-value t (s ∷ []) = length-sign_vector t s
length-value t (a ∷ b ∷ w) = length-doubled_plus a (value t (b ∷ w)) ∙ length-value t (b ∷ w)

pub value-cons : (t a : ℕ) (w : List ℕ) → 0 < length w → value t (a ∷ w) ≡ doubled_plus a (value t w)
value-cons t a [] h = absurd (omega arith)
value-cons t a (b ∷ w) h = refl

pub nonempty-append : (w v : List ℕ) → 0 < length v → 0 < length (w ++ v)
nonempty-append w v h = omega (arith, length-append w v)

-- the word of the letters w and the sign s
pub value-letter : (t a : ℕ) (w : List ℕ) (s : ℕ) → value t (a ∷ (w ++ s ∷ [])) ≡ doubled_plus a (value t (w ++ s ∷ []))
value-letter t a w s = value-cons t a (w ++ s ∷ []) (nonempty-append w (s ∷ []) (omega arith))

-- the value of a word behind more letters has their digits in front
pub value-append : (t : ℕ) (w v : List ℕ) → 0 < length v → value t (w ++ v) ≡ after_digits w (value t v)
value-append t [] v h = refl
value-append t (a ∷ w) v h = value-cons t a (w ++ v) (nonempty-append w v h) ∙ ap (doubled_plus a) (value-append t w v h)

-- the component in track i
pub slice_get-doubled_plus : (a i : ℕ) (z : Vector) (x : ℤ) → slice_get z i ≡ Some x → slice_get (doubled_plus a z) i ≡ Some (pos 2 *ℤ x +ℤ pos (bit_at a i))
slice_get-doubled_plus a i [] x h = (cc)
slice_get-doubled_plus a zero (v ∷ z) x h =
    let same : v ≡ x = (cc) in
    ap (λ (u : ℤ). Some (pos 2 *ℤ u +ℤ pos (a % 2))) same ∙ ap (λ (d : ℕ). Some (pos 2 *ℤ x +ℤ pos d)) (sym (bit_at_lowest a))
slice_get-doubled_plus a (suc i) (v ∷ z) x h =
    slice_get-doubled_plus (a / 2) i z x h ∙ ap (λ (d : ℕ). Some (pos 2 *ℤ x +ℤ pos d)) (sym (bit_at-suc a i))

pub slice_get-sign_vector : (t s i : ℕ) → i < t → slice_get (sign_vector t s) i ≡ Some (neg_ℤ (pos (bit_at s i)))
slice_get-sign_vector zero s i h = absurd (omega arith)
slice_get-sign_vector (suc t) s zero h = ap (λ (d : ℕ). Some (neg_ℤ (pos d))) (sym (bit_at_lowest s))
slice_get-sign_vector (suc t) s (suc i) h =
    slice_get-sign_vector t (s / 2) i (omega arith) ∙ ap (λ (d : ℕ). Some (neg_ℤ (pos d))) (sym (bit_at-suc s i))

-- a sum from one on, each summand twice the one before
sum_by-doubled : (f g : ℕ → ℕ) → ((k : ℕ) → f (suc k) ≡ 2 * g k) → (n a b : ℕ) → b ≡ suc a → sum_by f (range_with_len b n) ≡ 2 * sum_by g (range_with_len a n)
sum_by-doubled f g twice zero a b h = refl
sum_by-doubled f g twice (suc n) a b h =
    let rest = sum_by-doubled f g twice n (a + 1) (b + 1) (omega arith) in
    let first : f b ≡ 2 * g a = ap f h ∙ twice a in
    let f_sum : sum_by f (range_with_len b (suc n)) ≡ f b + sum_by f (range_with_len (b + 1) n) = sum_by-cons f b (range_with_len (b + 1) n) in
    let g_sum : sum_by g (range_with_len a (suc n)) ≡ g a + sum_by g (range_with_len (a + 1) n) = sum_by-cons g a (range_with_len (a + 1) n) in
    f_sum ∙ omega arith ∙ sym (ap (λ (n : ℕ). 2 * n) g_sum)

number-cons : (i a : ℕ) (w : List ℕ) → number i (a ∷ w) ≡ bit_at a i + 2 * number i w
number-cons i a w =
    let f : ℕ → ℕ = λ (k : ℕ). 2 ^ k * bit_at (slice_index (a ∷ w) k) i in
    let g : ℕ → ℕ = λ (k : ℕ). 2 ^ k * bit_at (slice_index w k) i in
    let rest = sum_by-doubled f g (λ k. power-twice k (bit_at (slice_index w k) i)) (length w) 0 1 refl in
    let first : 2 ^ 0 * bit_at a i ≡ bit_at a i = omega arith in
    sum_by-cons f 0 (range_with_len 1 (length w)) ∙ ap (λ (n : ℕ). n + sum_by f (range_with_len 1 (length w))) first ∙ ap (λ (n : ℕ). bit_at a i + n) rest
  where
    power-twice : (k d : ℕ) → 2 ^ suc k * d ≡ 2 * (2 ^ k * d)
    power-twice k d = grind arith

-- the sum of two's complement
pub value-sum : (t i : ℕ) (w : List ℕ) (s : ℕ) → i < t → slice_get (value t (w ++ s ∷ [])) i ≡ Some (pos (number i w) -ℤ pos (2 ^ length w * bit_at s i))
value-sum t i [] s h =
    let same : neg_ℤ (pos (bit_at s i)) ≡ (pos 0 -ℤ pos (2 ^ 0 * bit_at s i)) = omega (arith, ints) in
    slice_get-sign_vector t s i h ∙ ap Some same
value-sum t i (a ∷ w) s h =
    let known = slice_get-doubled_plus a i (value t (w ++ s ∷ [])) (pos (number i w) -ℤ pos (2 ^ length w * bit_at s i)) (value-sum t i w s h) in
    let same = step (number i (a ∷ w)) (number i w) (bit_at a i) (bit_at s i) (length w) (number-cons i a w) in
    ap (λ (z : Vector). slice_get z i) (value-letter t a w s) ∙ known ∙ ap Some same
  where
    step : (m n d e k : ℕ) → m ≡ d + 2 * n → (pos 2 *ℤ (pos n -ℤ pos (2 ^ k * e)) +ℤ pos d) ≡ (pos m -ℤ pos (2 ^ suc k * e))
    step m n d e k h = let power : 2 ^ suc k * e ≡ 2 * (2 ^ k * e) = grind arith in rw power (omega (arith, ints))

scaled : (p n d : ℕ) (x : ℤ) → (pos 2 *ℤ (pos p *ℤ x +ℤ pos n) +ℤ pos d) ≡ (pos (2 * p) *ℤ x +ℤ pos (d + 2 * n))
scaled p n d (pos m) = ap pos (omega arith)
scaled p n d (negsuc m) =
    let twice : 2 * p * suc m ≡ 2 * (p * suc m) = omega arith in
    rw twice (omega (arith, ints))

-- letters in front of a vector: 2 ^ n times the component, and the number of the letters
pub after_digits-sum : (i : ℕ) (w : List ℕ) (z : Vector) (x : ℤ) → slice_get z i ≡ Some x → slice_get (after_digits w z) i ≡ Some (pos (2 ^ length w) *ℤ x +ℤ pos (number i w))
after_digits-sum i [] z x h = h ∙ ap Some (once x)
  where
    once : (x : ℤ) → x ≡ (pos (2 ^ 0) *ℤ x +ℤ pos 0)
    once (pos m) = ap pos (omega arith)
    once (negsuc m) = omega (arith, ints)
after_digits-sum i (a ∷ w) z x h =
    let known = slice_get-doubled_plus a i (after_digits w z) (pos (2 ^ length w) *ℤ x +ℤ pos (number i w)) (after_digits-sum i w z x h) in
    let power : 2 * 2 ^ length w ≡ 2 ^ suc (length w) = omega arith in
    known
    ∙ ap Some (scaled (2 ^ length w) (number i w) (bit_at a i) x)
    ∙ ap (λ (n : ℕ). Some (pos n *ℤ x +ℤ pos (bit_at a i + 2 * number i w))) power
    ∙ ap (λ (n : ℕ). Some (pos (2 ^ suc (length w)) *ℤ x +ℤ pos n)) (sym (number-cons i a w))

-- the digits of a letter are its bits
pub slice_get-digits : (t a i : ℕ) → i < t → slice_get (digits t a) i ≡ Some (bit_at a i)
slice_get-digits zero a i h = absurd (omega arith)
slice_get-digits (suc t) a zero h = ap Some (sym (bit_at_lowest a))
slice_get-digits (suc t) a (suc i) h = slice_get-digits t (a / 2) i (omega arith) ∙ ap Some (sym (bit_at-suc a i))

-- a restricted letter has the bits of the tracks that are kept
pub bit_at-restricted : (kept : List ℕ) (a i : ℕ) → i < length kept → bit_at (restricted kept a) i ≡ bit_at a (slice_index kept i)
bit_at-restricted [] a i h = absurd (omega arith)
bit_at-restricted (k ∷ kept) a zero h =
    let small = bit_at-lt a k in
    let low : (bit_at a k + 2 * restricted kept a) % 2 ≡ bit_at a k = omega arith in
    bit_at_lowest (restricted (k ∷ kept) a) ∙ low
bit_at-restricted (k ∷ kept) a (suc i) h =
    let small = bit_at-lt a k in
    let high : (bit_at a k + 2 * restricted kept a) / 2 ≡ restricted kept a = omega arith in
    bit_at-suc (restricted (k ∷ kept) a) i ∙ ap (λ (n : ℕ). bit_at n i) high ∙ bit_at-restricted kept a i (omega arith)
