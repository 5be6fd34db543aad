-- Lists that are written part by part.
use Rattle.std.proofs.Common.{◌≡◌, ℕ, ◌+◌, ◌*◌, ◌^◌, ◌<◌, ◌≤◌, List, [], ◌∷◌, ◌++◌, take, drop, length, refl, ap, sym, ◌∙◌, arith, get_or, append_assoc}
use Rattle.std.specs.List.{flat_map}
use Rattle.std.proofs.lemmas.List.{append-nil, take_more, take-append-drop}
use Rattle.std.proofs.lemmas.Grind.{flat_map-append}
use Rattle.std.proofs.Math.Nat.{mul-le-mul_left}
use Rattle.std.proofs.Math.Pow.{pow_mono}

-- the part of one more item
pub flat_map-more : {X Y : Type 0} (h : X → List Y) (xs : List X) (i : ℕ) (d : X) → i < length xs → flat_map h (take (i + 1) xs) ≡ flat_map h (take i xs) ++ h (get_or xs i d)
flat_map-more {X} {Y} h xs i d inside =
    ap (flat_map h) (take_more xs i d inside)
    ∙ flat_map-append h (take i xs) (get_or xs i d ∷ [])
    ∙ ap (λ (ys : List Y). flat_map h (take i xs) ++ ys) (append-nil (h (get_or xs i d)))

pub flat_map-split : {X Y : Type 0} (h : X → List Y) (xs : List X) (i : ℕ) → flat_map h xs ≡ flat_map h (take i xs) ++ flat_map h (drop i xs)
flat_map-split h xs i = ap (flat_map h) (sym (take-append-drop i xs)) ∙ flat_map-append h (take i xs) (drop i xs)

pub written-more : {X Y : Type 0} (h : X → List Y) (xs : List X) (i : ℕ) (d : X) (before now next : List Y) → i < length xs → now ≡ before ++ flat_map h (take i xs) → next ≡ now ++ h (get_or xs i d) →
    next ≡ before ++ flat_map h (take (i + 1) xs)
written-more {X} {Y} h xs i d before now next inside is step =
    step
    ∙ ap (λ (l : List Y). l ++ h (get_or xs i d)) is
    ∙ append_assoc before (flat_map h (take i xs)) (h (get_or xs i d))
    ∙ ap (λ (l : List Y). before ++ l) (sym (flat_map-more h xs i d inside))

pub take-front : {X : Type 0} (xs ys : List X) → take (length xs) (xs ++ ys) ≡ xs
take-front [] ys = refl
take-front {X} (x ∷ xs) ys = ap (λ (l : List X). x ∷ l) (take-front xs ys)

-- rows of at most 1,024 edges of at most 65,536 states
pub rows-few : (i t : ℕ) → t ≤ 10 → i < 65536 → i * 2 ^ t + 2 ^ t ≤ 67108864
rows-few i t small few =
    let letters : 2 ^ t ≤ 1024 = pow_mono {i = t} {j = 10} small in
    let rows = mul-le-mul_left (i + 1) letters in
    let row : (i + 1) * 2 ^ t ≡ i * 2 ^ t + 2 ^ t = grind arith in
    omega (arith, rows, row)

pub rows-all : (i t : ℕ) → t ≤ 10 → i ≤ 65536 → i * 2 ^ t ≤ 67108864
rows-all i t small few =
    let letters : 2 ^ t ≤ 1024 = pow_mono {i = t} {j = 10} small in
    let rows = mul-le-mul_left i letters in
    omega (arith, rows)
