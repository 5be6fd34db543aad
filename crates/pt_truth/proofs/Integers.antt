-- Products of integers, division with remainder, congruence.
use Rattle.std.proofs.Common.{ℕ, suc, ◌+◌, ◌*◌, ◌-◌, ◌/◌, ◌%◌, ◌<◌, ◌≤◌, ◌≡◌, ap, sym, ◌∙◌, arith}
use Rattle.std.proofs.Common.{◌⊎◌, inl, inr, List, [], ◌∷◌}
use Rattle.std.specs.Prelude.{ℤ, pos, negsuc, ◌+ℤ◌, ◌*ℤ◌, ◌≤ℤ◌, neg_ℤ, unsigned_abs}
use Rattle.std.specs.Int.{int_div_euclid, int_rem_euclid}
use Rattle.std.proofs.lemmas.Bool.{cases_eq, cases_lt}
use Rattle.pt_sets.proofs.Halving.{doubled_plus-halves}
use Rattle.std.proofs.lemmas.Int.{ints}
use Rattle.std.proofs.Math.Nat.{div-add-mod, mod-lt, add-mul-mod_self_left, mod-eq_of_lt}
use borrow.Author.Differences.{up, down, product_is, sum_is_lem, same_in}
use Rattle.pt_atoms.specs.Sums.{Congruent}

by : (c x y : ℕ) → x ≡ y → c * x ≡ c * y
by c x y e = ap (λ n. c * n) e

pub mul_add : (a b c : ℤ) → a *ℤ (b +ℤ c) ≡ a *ℤ b +ℤ a *ℤ c
mul_add a b c =
    let s = sum_is_lem b c in
    same_in _ _ (omega (arith, ints, by (up a) _ _ s, by (down a) _ _ s))

-- an integer is a number below m and a multiple of m
pub remainder : (m : ℕ) → 0 < m → (x : ℤ) → (r : ℕ) × (r < m) × Congruent m x (pos r)
remainder m h (pos n) =
    let whole = div-add-mod n m in
    let small : n % m < m = mod-lt n h in
    let product = product_is (pos m) (pos (n / m)) in
    (n % m, small, (pos (n / m), same_in _ _ (omega (arith, ints, product.0, product.1, whole))))
remainder m h (negsuc n) =
    let whole = div-add-mod n m in
    let small : n % m < m = mod-lt n h in
    let product = product_is (pos m) (negsuc (n / m)) in
    (m - 1 - n % m, omega arith, (negsuc (n / m), same_in _ _ (omega (arith, ints, product.0, product.1, whole))))

pub congruent_sum : (m : ℕ) (a b c d : ℤ) → Congruent m a b → Congruent m c d → Congruent m (a +ℤ c) (b +ℤ d)
congruent_sum m a b c d (k, e) (l, g) = let product = mul_add (pos m) k l in (k +ℤ l, omega (arith, ints, product))

pub congruent_sym : (m : ℕ) (a b : ℤ) → Congruent m a b → Congruent m b a
congruent_sym m a b (k, e) =
    let none = mul_add (pos m) k (neg_ℤ k) in
    let zero : k +ℤ neg_ℤ k ≡ pos 0 = omega (arith, ints) in
    let nothing : pos m *ℤ pos 0 ≡ pos 0 = omega (arith, ints) in
    let there : pos m *ℤ (k +ℤ neg_ℤ k) ≡ pos 0 = ap (λ (x : ℤ). pos m *ℤ x) zero ∙ nothing in
    (neg_ℤ k, omega (arith, ints, none, there))

pub congruent_trans : (m : ℕ) (a b c : ℤ) → Congruent m a b → Congruent m b c → Congruent m a c
congruent_trans m a b c (k, e) (l, g) = let product = mul_add (pos m) l k in (l +ℤ k, omega (arith, ints, product))

-- numbers are congruent exactly where they have one remainder
pub congruent_test : (m n r : ℕ) → 0 < m → r < m → Congruent m (pos n) (pos r) → n % m ≡ r
congruent_test m n r h small (pos k, e) =
    let product = product_is (pos m) (pos k) in
    let there : n ≡ r + m * k = omega (arith, ints, product.0, product.1) in
    ap (λ (x : ℕ). x % m) there ∙ add-mul-mod_self_left r m k ∙ mod-eq_of_lt small
congruent_test m n r h small (negsuc k, e) =
    let product = product_is (pos m) (negsuc k) in
    let there : n + m * suc k ≡ r = omega (arith, ints, product.0, product.1) in
    let more : m * suc k ≡ m * k + m = omega arith in
    absurd (omega arith)

pub congruent_remainder : (m n : ℕ) → 0 < m → Congruent m (pos n) (pos (n % m))
congruent_remainder m n h =
    let whole = div-add-mod n m in
    let product = product_is (pos m) (pos (n / m)) in
    (pos (n / m), same_in _ _ (omega (arith, ints, product.0, product.1, whole)))

-- half of an integer, rounded down, and the digit that is left
abbrev pub half : ℤ → ℤ
half k = int_div_euclid k (pos 2)

abbrev pub digit : ℤ → ℕ
digit k = (unsigned_abs (int_rem_euclid k (pos 2)) + 2 * 0) % 2

pub digit_small : (k : ℤ) → digit k < 2
digit_small k = omega arith

head : (x y : ℤ) (xs ys : List ℤ) → x ∷ xs ≡ y ∷ ys → x ≡ y
head x y xs ys h = cc

pub halved : (k : ℤ) → (pos 2 *ℤ half k +ℤ pos (digit k)) ≡ k
halved k = head (pos 2 *ℤ half k +ℤ pos (digit k)) k [] [] (doubled_plus-halves (k ∷ []))

pub le_or_not : (x y : ℤ) → (x ≤ℤ y) ⊎ (¬ (x ≤ℤ y))
le_or_not x y = elim (cases_lt (up y + down x) (up x + down y)) [ inl less ↦ inr (λ h. omega (arith, ints)) | inr le ↦ inl (omega (arith, ints)) ]

pub equal_or_not : (x y : ℤ) → (x ≡ y) ⊎ (¬ (x ≡ y))
equal_or_not x y = elim (cases_eq (up x + down y) (up y + down x)) [ inl same ↦ inl (omega (arith, ints)) | inr other ↦ inr (λ h. omega (arith, ints)) ]
