-- Entries in the order of their levels, and those of a front.
use Rattle.std.proofs.Common.{◌≡◌, ℕ, zero, suc, ◌<◌, ◌≤◌, nat_le, Bool, true, false, cond, List, [], ◌∷◌, length, map, filter, take, slice_get, Some, refl, ap, subst, arith}
use Rattle.std.proofs.lemmas.Bool.Decides.{nat_tests}
use Rattle.std.specs.List.{AllByRecursion}
use Rattle.pt_read.specs.Scope.{Assertion, last_conjunction}
use Rattle.pt_read.specs.declared.scope.Assertion as kept
use Rattle.pt_read.specs.Kept.{AreOrdered, shown_assertion}
use Rattle.pt_read.specs.Lasting.{AreInOrder}

le-true : {a b : ℕ} → a ≤ b → nat_le a b ≡ true
le-true h = grind (arith, nat_tests)

le-false : {a b : ℕ} → b < a → nat_le a b ≡ false
le-false h = grind (arith, nat_tests)

all-get : {X : Type 0} (P : X → Type 0) (xs : List X) (i : ℕ) (x : X) → AllByRecursion P xs → slice_get xs i ≡ Some x → P x
all-get P [] i x h e = absurd cc
all-get P (y ∷ xs) zero x h e = let same : y ≡ x = cc in subst P same h.0
all-get P (y ∷ xs) (suc i) x h e = all-get P xs i x h.1 e

abbrev pub low : ℕ → kept.Assertion → Bool
low level a = nat_le a.level level

-- all assertions before one that is kept are kept
pub front-kept : (xs : List kept.Assertion) (i level : ℕ) (x : kept.Assertion) → AreOrdered xs → slice_get xs i ≡ Some x → x.level ≤ level → filter (low level) (take (suc i) xs) ≡ take (suc i) xs
front-kept [] i level x h e le = absurd cc
front-kept (y ∷ xs) zero level x h e le =
    let same : y ≡ x = cc in
    let fits : y.level ≤ level = rw same le in
    rw (le-true fits) refl
front-kept (y ∷ xs) (suc i) level x h e le =
    let below : y.level ≤ x.level = all-get (λ (b : kept.Assertion). y.level ≤ b.level) xs i x h.0 e in
    let rest = front-kept xs i level x h.1 e le in
    let fits : nat_le y.level level ≡ true = le-true (omega arith) in
    rw (fits, rest) refl

-- an assertion of a higher level is not kept
pub front-step : (xs : List kept.Assertion) (i level : ℕ) (x : kept.Assertion) → slice_get xs i ≡ Some x → level < x.level → filter (low level) (take (suc i) xs) ≡ filter (low level) (take i xs)
front-step [] i level x e high = absurd cc
front-step (y ∷ xs) zero level x e high =
    let same : y ≡ x = cc in
    let over : nat_le y.level level ≡ false = le-false (rw same high) in
    rw over refl
front-step (y ∷ xs) (suc i) level x e high = ap (λ us. cond (nat_le y.level level) (y ∷ us) us) (front-step xs i level x e high)

-- kept assertions and shown ones
pub ordered-kept : (xs : List kept.Assertion) → AreInOrder (map shown_assertion xs) → AreOrdered xs
ordered-kept [] h = tt
ordered-kept (x ∷ xs) h = (over xs h.0, ordered-kept xs h.1)
  where
    over : (ys : List kept.Assertion) → AllByRecursion (λ (b : Assertion). x.level ≤ b.level) (map shown_assertion ys) → AllByRecursion (λ (b : kept.Assertion). x.level ≤ b.level) ys
    over [] k = tt
    over (y ∷ ys) k = (k.0, over ys k.1)

pub filter-shown : (level : ℕ) (xs : List kept.Assertion) → filter (λ (a : Assertion). nat_le a.level level) (map shown_assertion xs) ≡ map shown_assertion (filter (low level) xs)
filter-shown level [] = refl
filter-shown level (x ∷ xs) = by-test (nat_le x.level level) (filter-shown level xs)
  where
    by-test : (b : Bool) → filter (λ (a : Assertion). nat_le a.level level) (map shown_assertion xs) ≡ map shown_assertion (filter (low level) xs) → cond b (shown_assertion x ∷ filter (λ (a : Assertion). nat_le a.level level) (map shown_assertion xs)) (filter (λ (a : Assertion). nat_le a.level level) (map shown_assertion xs)) ≡ map shown_assertion (cond b (x ∷ filter (low level) xs) (filter (low level) xs))
    by-test true go = ap (λ ys. shown_assertion x ∷ ys) go
    by-test false go = go

-- the last assertion has the conjunction
pub last-conjunction : (c i : ℕ) (xs : List kept.Assertion) (x : kept.Assertion) → length xs ≡ suc i → slice_get xs i ≡ Some x → last_conjunction c (map shown_assertion xs) ≡ x.conjunction
last-conjunction c i [] x n e = absurd cc
last-conjunction c zero (y ∷ []) x n e = let same : y ≡ x = cc in ap (λ (a : kept.Assertion). a.conjunction) same
last-conjunction c (suc i) (y ∷ []) x n e = absurd (omega arith)
last-conjunction c zero (y ∷ z ∷ xs) x n e = absurd (omega arith)
last-conjunction c (suc i) (y ∷ z ∷ xs) x n e = last-conjunction y.conjunction i (z ∷ xs) x (omega arith) e
