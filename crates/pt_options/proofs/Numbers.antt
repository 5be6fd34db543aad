-- Numbers in decimal digits without a leading zero.
use Rattle.std.proofs.Common.{◌≡◌, ◌≢◌, ◌⊎◌, ℕ, zero, suc, ◌<◌, ◌≤◌, ◌^◌, List, get_or, inl, inr, arith, ap, sym, subst, ◌∙◌, codes}
use Rattle.std.specs.Prelude.{Result, Ok, Err, decimal}
use Rattle.std.specs.Str.Parse.{AllDigits, digits_value, ParsesUnsigned}
use Rattle.std.proofs.lemmas.Str.Parse.{IsNumeralModel, numerals_by_value, tells_digits, parse_plain}
use Rattle.std.proofs.lemmas.Fmt.{parse-decimal, decimal-digits_value, decimal_digit, decimal_injective, first_decimal}

digits : IsNumeralModel (AllDigits 10) (digits_value 10)
digits = numerals_by_value (AllDigits 10) tells_digits

abbrev pub IsPlain : List ℕ → Type 0
IsPlain bs = (bs ≡ codes "0") ⊎ (48 < get_or bs 0 0)

-- what is read, and begins with no zero or sign, is written so
pub read_number : (E : Type 0) (bs : List ℕ) (n : ℕ) → ParsesUnsigned {E = E} 32 10 bs (Ok n) → IsPlain bs → bs ≡ decimal n
read_number E bs n parses (inl is) =
    let got : Result ℕ E = Ok n in
    let written : bs ≡ decimal 0 = is ∙ sym (decimal_digit 0 (omega arith)) in
    let read : got ≡ Ok 0 = parse-decimal 32 0 bs (Ok n) (omega arith) (omega arith) written parses in
    let none : n ≡ 0 = cc in
    written ∙ ap decimal (sym none)
read_number E bs n parses (inr first) =
    let plain : get_or bs 0 0 ≢ 43 = λ e. omega (arith, e) in
    let told = parse_plain digits {E = E} 32 bs (Ok n) parses plain in
    let small : digits_value 10 bs < 2 ^ 64 = omega (arith, told.0.2) in
    sym (decimal-digits_value digits bs told.0.0 told.0.1 (λ e. absurd (omega (arith, e))) small) ∙ ap decimal (sym told.1)

-- what is written so is plain
pub written_plain : (bs : List ℕ) (n : ℕ) → n < 2 ^ 32 → bs ≡ decimal n → IsPlain bs
written_plain bs zero fits is = inl (is ∙ decimal_digit 0 (omega arith))
written_plain bs (suc n) fits is = inr (subst (λ (l : List ℕ). 48 < get_or l 0 0) (sym is) (first_decimal (suc n) (omega arith) (omega arith)))

-- and is read
pub written_read : (E : Type 0) (bs : List ℕ) (e : E) (n : ℕ) → ParsesUnsigned {E = E} 32 10 bs (Err e) → n < 2 ^ 32 → bs ≡ decimal n → ⊥
written_read E bs e n parses fits is =
    let read : Err e ≡ Ok n = parse-decimal 32 n bs (Err e) (omega arith) (omega arith) is parses in
    cc

-- one number is written so
pub one_written : (bs : List ℕ) (m n : ℕ) → m < 2 ^ 32 → n < 2 ^ 32 → bs ≡ decimal m → bs ≡ decimal n → m ≡ n
one_written bs m n small fits is also = decimal_injective m n (omega arith) (omega arith) (sym is ∙ also)
