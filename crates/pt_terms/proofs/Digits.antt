-- The value of digits, cut off at a greatest value.
use Rattle.std.proofs.Common.{◌≡◌, ℕ, zero, suc, ◌+◌, ◌*◌, ◌-◌, ◌<◌, ◌≤◌, ◌⊎◌, inl, inr, min, List, [], ◌∷◌, length, drop, get_or, ap, sym, ◌∙◌, arith, drop-cons}
use Rattle.pt_syntax.specs.Bytes.{value_behind}

grows : (n : ℕ) (digits : List ℕ) → n ≤ value_behind n digits
grows n [] = omega arith
grows n (b ∷ digits) = omega (arith, grows (10 * n + (b - 48)) digits)

over : (n m : ℕ) (digits : List ℕ) → m ≤ n → min (value_behind n digits) m ≡ m
over n m digits h = omega (arith, grows n digits)

order : (n m : ℕ) → (n ≤ m) ⊎ (m ≤ n)
order zero m = inl (omega arith)
order (suc n) zero = inr (omega arith)
order (suc n) (suc m) = elim (order n m) [ inl h ↦ inl (omega arith) | inr h ↦ inr (omega arith) ]

-- cutting off the value of the first digits changes nothing at the end
pub capped : (n m : ℕ) (digits : List ℕ) → min (value_behind (min n m) digits) m ≡ min (value_behind n digits) m
capped n m digits = by_order (order n m)
  where
    by_order : (n ≤ m) ⊎ (m ≤ n) → min (value_behind (min n m) digits) m ≡ min (value_behind n digits) m
    by_order (inl h) = let same : min n m ≡ n = omega arith in ap (λ (k : ℕ). min (value_behind k digits) m) same
    by_order (inr h) =
        let same : min n m ≡ m = omega arith in
        ap (λ (k : ℕ). min (value_behind k digits) m) same ∙ over m m digits (omega arith) ∙ sym (over n m digits h)

-- one digit more
pub digit_step : (v new m i : ℕ) (digits : List ℕ) (all : ℕ) → i < length digits → new ≡ min (10 * v + (get_or digits i 0 - 48)) m → min (value_behind v (drop i digits)) m ≡ all → min (value_behind new (drop (i + 1) digits)) m ≡ all
digit_step v new m i digits all within is so_far =
    let next : i + 1 ≡ suc i = omega arith in
    let here : drop i digits ≡ get_or digits i 0 ∷ drop (suc i) digits = drop-cons digits i 0 within in
    let before : min (value_behind (10 * v + (get_or digits i 0 - 48)) (drop (suc i) digits)) m ≡ all = ap (λ (l : List ℕ). min (value_behind v l) m) (sym here) ∙ so_far in
    rw (next, is) (capped (10 * v + (get_or digits i 0 - 48)) m (drop (suc i) digits) ∙ before)
