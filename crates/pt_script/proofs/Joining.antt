-- Texts that are written part by part, and texts with a blank between each two.
use Rattle.std.proofs.Common.{◌≡◌, ℕ, List, [], ◌∷◌, ◌++◌, map, refl, ap, sym, ◌∙◌, append_assoc, ◌+◌, ◌<◌, ◌≤◌, length, get_or, drop, take, ◌-◌, rules, ℤ, Vec}
use Rattle.std.specs.declared.alloc.Global.{Global}
use Rattle.pt_query.specs.Queries.{vectors_of}
use Rattle.std.specs.List.{join_with_byte, flat_map}
use Rattle.std.proofs.lemmas.List.{append-nil, take_all, take_more}
use Rattle.std.proofs.lemmas.Grind.{flat_map-append}
use Rattle.std.proofs.lemmas.List.Concat.{flat_map-cons}

pub join-cons : {X : Type 0} (f : X → List ℕ) (x : X) (xs : List X) → join_with_byte 32 (map f (x ∷ xs)) ≡ f x ++ flat_map (λ (y : X). 32 ∷ f y) xs
join-cons f x [] = sym (append-nil (f x))
join-cons {X} f x (y ∷ ys) = ap (λ (l : List ℕ). f x ++ 32 ∷ l) (join-cons f y ys) ∙ ap (λ (l : List ℕ). f x ++ l) (sym (flat_map-cons (λ (z : X). 32 ∷ f z) y ys))

-- one more part
pub more : (o x y now next : List ℕ) → now ≡ o ++ x → next ≡ now ++ y → next ≡ o ++ (x ++ y)
more o x y now next before step = step ∙ ap (λ (l : List ℕ). l ++ y) before ∙ append_assoc o x y

-- the part of one more item
pub written-more : {X : Type 0} (f : X → List ℕ) (xs : List X) (i : ℕ) (d : X) (before now next : List ℕ) → i < length xs → now ≡ before ++ flat_map f (take i xs) → next ≡ now ++ f (get_or xs i d) → next ≡ before ++ flat_map f (take (i + 1) xs)
written-more {X} f xs i d before now next inside is step =
    let last : flat_map f (get_or xs i d ∷ []) ≡ f (get_or xs i d) = append-nil (f (get_or xs i d)) in
    more before (flat_map f (take i xs)) (f (get_or xs i d)) now next is step
    ∙ ap (λ (l : List ℕ). before ++ l) (ap (λ (l : List ℕ). flat_map f (take i xs) ++ l) (sym last) ∙ sym (flat_map-append f (take i xs) (get_or xs i d ∷ [])) ∙ ap (flat_map f) (sym (take_more xs i d inside)))

-- one more part of two
pub more-two : (o x y z now next : List ℕ) → now ≡ o ++ x → next ≡ now ++ (y ++ z) → next ≡ o ++ ((x ++ y) ++ z)
more-two o x y z now next before step = more o (x ++ y) z (now ++ y) next (more o x y now (now ++ y) before refl) (step ∙ sym (append_assoc now y z))

-- the first text, and those of the others
pub join-first : {X : Type 0} (f : X → List ℕ) (xs : List X) (d : X) → 1 ≤ length xs → join_with_byte 32 (map f xs) ≡ f (get_or xs 0 d) ++ flat_map (λ (y : X). 32 ∷ f y) (drop 1 xs)
join-first f [] d some = elim some [ ]
join-first f (x ∷ xs) d some = join-cons f x xs

pub others-whole : {X : Type 0} (xs : List X) → take (length xs - 1) (drop 1 xs) ≡ drop 1 xs
others-whole [] = refl
others-whole (x ∷ xs) = take_all (length (x ∷ xs) - 1) xs (search rules)

pub map-vectors : {X : Type 0} (f : List ℤ → X) (vs : List (Vec ℤ Global)) → map f (vectors_of vs) ≡ map (λ (v : Vec ℤ Global). f v.items) vs
map-vectors f [] = refl
map-vectors {X} f (v ∷ vs) = ap (λ (xs : List X). f v.items ∷ xs) (map-vectors f vs)
