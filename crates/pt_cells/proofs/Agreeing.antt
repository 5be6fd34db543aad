-- Lists that agree where both have an item.
use Rattle.std.proofs.Common.{◌≡◌, ℕ, suc, ◌<◌, ◌≤◌, List, [], ◌∷◌, length, map, take, get_or, set, refl, ap, sym, ◌∙◌, arith, Some, option_map, slice_get}
use Rattle.std.proofs.Math.Seq.{take-length}
use Rattle.std.proofs.lemmas.List.{set-get_or}
use Rattle.std.proofs.lemmas.Option.{slice_get-map, slice_get-get_or}
use Rattle.pt_shards.specs.Shards.{Begins, Agree, JoinsLists}

-- what is seen through a function at an index
pub at_index : {X Y : Type 0} (f : X → Y) (xs : List X) (k : ℕ) (x : X) → k < length xs → x ≡ get_or xs k x → slice_get (map f xs) k ≡ Some (f x)
at_index f xs k x lt e = slice_get-map f xs k ∙ ap (option_map f) (slice_get-get_or xs k x lt ∙ ap Some (sym e))

-- an item that is written back leaves the list
pub set-same : {X : Type 0} (xs : List X) (k : ℕ) (x y : X) → x ≡ get_or xs k x → y ≡ x → set xs k y ≡ xs
set-same xs k x y e same = ap (λ z. set xs k z) (same ∙ e) ∙ set-get_or xs k x

Agree-tail : (x y : List ℕ) (xs ys : List (List ℕ)) → Agree (x ∷ xs) (y ∷ ys) → Agree xs ys
Agree-tail x y xs ys agree index in_first in_second = agree (suc index) (omega arith) (omega arith)

-- of two lists that agree the shorter begins the longer
pub Begins-agree : (xs ys : List (List ℕ)) → Agree xs ys → length xs ≤ length ys → Begins xs ys
Begins-agree [] ys agree le = refl
Begins-agree (x ∷ xs) [] agree le = absurd (omega arith)
Begins-agree (x ∷ xs) (y ∷ ys) agree le =
    let head = agree 0 (omega arith) (omega arith) in
    let rest : take (length xs) ys ≡ xs = Begins-agree xs ys (Agree-tail x y xs ys agree) (omega arith) in
    cc (head, rest)

Agree-sym : (xs ys : List (List ℕ)) → Agree xs ys → Agree ys xs
Agree-sym xs ys agree index in_first in_second = sym (agree index in_second in_first)

-- the longer one joins both
pub JoinsLists-second : (xs ys : List (List ℕ)) → Agree xs ys → length xs ≤ length ys → JoinsLists xs ys ys
JoinsLists-second xs ys agree le = record {
  begins_first = Begins-agree xs ys agree le;
  begins_second = take-length ys;
  longer = omega arith;
}

pub JoinsLists-first : (xs ys : List (List ℕ)) → Agree xs ys → length ys ≤ length xs → JoinsLists xs ys xs
JoinsLists-first xs ys agree le = record {
  begins_first = take-length xs;
  begins_second = Begins-agree ys xs (Agree-sym xs ys agree) le;
  longer = omega arith;
}
