-- A letter with a digit, as it is computed.
use Rattle.std.proofs.Common.{◌≡◌, ℕ, suc, ◌+◌, ◌*◌, ◌/◌, ◌%◌, ◌^◌, ◌<◌, ◌≤◌, lit<, ap, sym, ◌∙◌, subst, arith}
use Rattle.std.proofs.Math.Nat.{pow-le-pow_right}
use Rattle.pt_project.specs.Projecting.{with_digit}
use Rattle.pt_project.proofs.Projected.{with_digit-letter}

double-step : (k : ℕ) → 2 ^ suc k ≡ 2 * 2 ^ k
double-step k = grind arith

pub computed : (k d b place : ℕ) → place ≡ 2 ^ k → b / place * (2 * place) + (d * place + b % place) ≡ with_digit k d b
computed k d b place is =
    ap (λ (m : ℕ). b / m * (2 * m) + (d * m + b % m)) is
    ∙ ap (λ (m : ℕ). b / 2 ^ k * m + (d * 2 ^ k + b % 2 ^ k)) (sym (double-step k))

pub computed-letter : (n k d b place : ℕ) → place ≡ 2 ^ k → k ≤ n → d < 2 → b < 2 ^ n → b / place * (2 * place) + (d * place + b % place) < 2 ^ suc n
computed-letter n k d b place is short digit letter = subst (λ (m : ℕ). m < 2 ^ suc n) (sym (computed k d b place is)) (with_digit-letter n k d b short digit letter)

pub computed-short : (n k d b place : ℕ) → place ≡ 2 ^ k → k ≤ n → n < 10 → d < 2 → b < 2 ^ n → b / place * (2 * place) + (d * place + b % place) < 1024
computed-short n k d b place is short few digit letter =
    let below = computed-letter n k d b place is short digit letter in
    let fits : suc n ≤ 10 = omega arith in
    let power : 2 ^ suc n ≤ 2 ^ 10 = pow-le-pow_right (lit< tt) fits in
    let bound : 2 ^ suc n ≤ 1024 = power in
    omega (arith, below, bound)

pub power-short : (k : ℕ) → k ≤ 10 → 2 ^ k ≤ 1024
power-short k h = let power : 2 ^ k ≤ 2 ^ 10 = pow-le-pow_right (lit< tt) h in power
