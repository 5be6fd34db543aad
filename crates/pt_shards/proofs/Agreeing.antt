-- Lists that agree: the shorter begins the longer.
use Rattle.std.proofs.Common.{◌≡◌, ℕ, ◌<◌, ◌≤◌, zero, suc, List, [], ◌∷◌, length, take, slice_get, refl, ap, sym, ◌∙◌, Some, arith}
use Rattle.std.proofs.Math.Seq.{take-length}
use Rattle.pt_shards.specs.Shards.{Begins, Agree, JoinsLists}

-- of two lists that agree the shorter begins the longer
pub Begins-Agree : (first second : List (List ℕ)) → Agree first second → length first ≤ length second → Begins first second
Begins-Agree [] second agree shorter = refl
Begins-Agree (x ∷ xs) [] agree shorter = absurd (omega arith)
Begins-Agree (x ∷ xs) (y ∷ ys) agree shorter =
    let here : Some y ≡ Some x = sym (agree zero (omega arith) (omega arith)) in
    let same : y ≡ x = cc here in
    let rest : take (length xs) ys ≡ xs = Begins-Agree xs ys (λ index in_first in_second. agree (suc index) (omega arith) (omega arith)) (omega arith) in
    cc

Agree-sym : (first second : List (List ℕ)) → Agree first second → Agree second first
Agree-sym first second agree index in_second in_first = sym (agree index in_first in_second)

-- the second of two lists that agree, where it is no shorter, is both together
pub joins-second : (first second : List (List ℕ)) → Agree first second → length first ≤ length second → JoinsLists first second second
joins-second first second agree shorter = record {
  begins_first = Begins-Agree first second agree shorter;
  begins_second = take-length second;
  longer = omega arith;
}

-- so is the first
pub joins-first : (first second : List (List ℕ)) → Agree first second → length second ≤ length first → JoinsLists first second first
joins-first first second agree shorter = record {
  begins_first = take-length first;
  begins_second = Begins-Agree second first (Agree-sym first second agree) shorter;
  longer = omega arith;
}

-- the front of a list has its elements
slice_get-take : (codes : List (List ℕ)) (i n : ℕ) → i < n → slice_get (take n codes) i ≡ slice_get codes i
slice_get-take codes i zero below = absurd (omega arith)
slice_get-take [] i (suc n) below = refl
slice_get-take (x ∷ xs) zero (suc n) below = refl
slice_get-take (x ∷ xs) (suc i) (suc n) below = slice_get-take xs i n (omega arith)

-- a list agrees with each that it begins
pub Agree-Begins : (first second : List (List ℕ)) → Begins first second → Agree first second
Agree-Begins first second begins index in_first in_second =
    ap (λ codes. slice_get codes index) (sym begins) ∙ slice_get-take second index (length first) in_first

-- a list that begins another begins what that one begins
pub Begins-trans : (first second third : List (List ℕ)) → Begins first second → Begins second third → Begins first third
Begins-trans [] second third one two = refl
Begins-trans (x ∷ xs) [] third one two = cc
Begins-trans (x ∷ xs) (y ∷ ys) [] one two = cc
Begins-trans (x ∷ xs) (y ∷ ys) (z ∷ zs) one two =
    let one_rest : take (length xs) ys ≡ xs = cc in
    let two_rest : take (length ys) zs ≡ ys = cc in
    let rest = Begins-trans xs ys zs one_rest two_rest in
    cc
