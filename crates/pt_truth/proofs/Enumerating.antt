-- Lists over an alphabet that are shorter than a number, and searches through finite lists.
use Rattle.std.proofs.Common.{◌≡◌, ◌⊎◌, inl, inr, ℕ, zero, suc, ◌<◌, ◌≤◌, List, [], ◌∷◌, ◌++◌, length, map, refl, ap, sym, subst, arith}
use Rattle.std.specs.List.{AllByRecursion, flat_map}
use Rattle.pt_base.specs.Elements.{AnyByRecursion, ContainsByRecursion}

-- a fact that is decided of each element is decided of some element
pub any_decided : {A : Type 0} (P : A → Type 0) (xs : List A) → AllByRecursion (λ x. P x ⊎ (¬ P x)) xs → AnyByRecursion P xs ⊎ (¬ AnyByRecursion P xs)
any_decided P [] h = inr (λ k. k)
any_decided P (x ∷ xs) (inl yes_x, h) = inl (inl yes_x)
any_decided P (x ∷ xs) (inr no_x, h) =
    elim (any_decided P xs h) [
      | inl found ↦ inl (inr found)
      | inr none ↦ inr (λ k. elim k [ inl here ↦ no_x here | inr there ↦ none there ])
    ]

-- an element of which a fact holds is some element of which it holds
pub any_of : {A : Type 0} (P : A → Type 0) (x : A) (xs : List A) → ContainsByRecursion x xs → P x → AnyByRecursion P xs
any_of P x [] h k = absurd h
any_of P x (y ∷ ys) (inl same) k = inl (subst P same k)
any_of P x (y ∷ ys) (inr there) k = inr (any_of P x ys there k)

-- some element of which a fact holds is an element, and the fact holds of it
pub the_one : {A : Type 0} (P : A → Type 0) (xs : List A) → AnyByRecursion P xs → (x : A) × ContainsByRecursion x xs × P x
the_one P [] h = absurd h
the_one P (x ∷ xs) (inl here) = (x, inl refl, here)
the_one P (x ∷ xs) (inr there) = let (y, is_in, holds) = the_one P xs there in (y, inr is_in, holds)

pub all_of : {A : Type 0} (P : A → Type 0) (x : A) (xs : List A) → ContainsByRecursion x xs → AllByRecursion P xs → P x
all_of P x [] h all = absurd h
all_of P x (y ∷ ys) (inl same) all = subst P (sym same) all.0
all_of P x (y ∷ ys) (inr there) all = all_of P x ys there all.1

pub all_each : {A : Type 0} (P : A → Type 0) (xs : List A) → ((x : A) → P x) → AllByRecursion P xs
all_each P [] h = tt
all_each P (x ∷ xs) h = (h x, all_each P xs h)

pub all_map : {A : Type 0} (P Q : A → Type 0) (xs : List A) → ((x : A) → P x → Q x) → AllByRecursion P xs → AllByRecursion Q xs
all_map P Q [] f all = tt
all_map P Q (x ∷ xs) f all = (f x all.0, all_map P Q xs f all.1)

-- a fact of each element of a list
pub all_own : {A : Type 0} (P : A → Type 0) (xs : List A) → ((x : A) → ContainsByRecursion x xs → P x) → AllByRecursion P xs
all_own P [] h = tt
all_own P (x ∷ xs) h = (h x (inl refl), all_own P xs (λ y is_in. h y (inr is_in)))

contains_left : {A : Type 0} (x : A) (xs ys : List A) → ContainsByRecursion x xs → ContainsByRecursion x (xs ++ ys)
contains_left x [] ys h = absurd h
contains_left x (y ∷ xs) ys (inl same) = inl same
contains_left x (y ∷ xs) ys (inr there) = inr (contains_left x xs ys there)

contains_right : {A : Type 0} (x : A) (xs ys : List A) → ContainsByRecursion x ys → ContainsByRecursion x (xs ++ ys)
contains_right x [] ys h = h
contains_right x (y ∷ xs) ys h = inr (contains_right x xs ys h)

all_append : {A : Type 0} (P : A → Type 0) (xs ys : List A) → AllByRecursion P xs → AllByRecursion P ys → AllByRecursion P (xs ++ ys)
all_append P [] ys first second = second
all_append P (x ∷ xs) ys first second = (first.0, all_append P xs ys first.1 second)

-- each list with each letter in front
abbrev pub in_front : List ℕ → List (List ℕ) → List (List ℕ)
in_front [] ws = []
in_front (a ∷ letters) ws = map (λ w. a ∷ w) ws ++ in_front letters ws

-- the lists over the letters that are shorter than n
abbrev pub shorter : List ℕ → ℕ → List (List ℕ)
shorter letters zero = []
shorter letters (suc n) = [] ∷ in_front letters (shorter letters n)

mapped : (a : ℕ) (w : List ℕ) (ws : List (List ℕ)) → ContainsByRecursion w ws → ContainsByRecursion (a ∷ w) (map (λ w. a ∷ w) ws)
mapped a w [] h = absurd h
mapped a w (v ∷ ws) (inl same) = inl (ap (λ u. a ∷ u) same)
mapped a w (v ∷ ws) (inr there) = inr (mapped a w ws there)

pub put_in_front : (a : ℕ) (letters w : List ℕ) (ws : List (List ℕ)) → ContainsByRecursion a letters → ContainsByRecursion w ws → ContainsByRecursion (a ∷ w) (in_front letters ws)
put_in_front a [] w ws h k = absurd h
put_in_front a (b ∷ letters) w ws (inl same) k =
    subst (λ c. ContainsByRecursion (c ∷ w) (in_front (b ∷ letters) ws)) (sym same)
    (contains_left (b ∷ w) (map (λ w. b ∷ w) ws) (in_front letters ws) (mapped b w ws k))
put_in_front a (b ∷ letters) w ws (inr there) k = contains_right (a ∷ w) (map (λ w. b ∷ w) ws) (in_front letters ws) (put_in_front a letters w ws there k)

-- each list over the letters that is shorter than n is among them
pub shorter_has : (letters : List ℕ) (n : ℕ) (w : List ℕ) → AllByRecursion (λ a. ContainsByRecursion a letters) w → length w < n → ContainsByRecursion w (shorter letters n)
shorter_has letters zero w over h = absurd (omega arith)
shorter_has letters (suc n) [] over h = inl refl
shorter_has letters (suc n) (a ∷ w) over h = inr (put_in_front a letters w (shorter letters n) over.0 (shorter_has letters n w over.1 (omega arith)))

front_over : (P : List ℕ → Type 0) (a : ℕ) (ws : List (List ℕ)) → AllByRecursion (λ w. P (a ∷ w)) ws → AllByRecursion P (map (λ w. a ∷ w) ws)
front_over P a [] h = tt
front_over P a (w ∷ ws) h = (h.0, front_over P a ws h.1)

-- facts of the letters and of the lists that make a fact of each letter in front of each list
pub all_in_front_of : (P : ℕ → Type 0) (Q R : List ℕ → Type 0) (letters : List ℕ) (ws : List (List ℕ)) → ((a : ℕ) (w : List ℕ) → P a → Q w → R (a ∷ w)) →
    AllByRecursion P letters → AllByRecursion Q ws → AllByRecursion R (in_front letters ws)
all_in_front_of P Q R [] ws f h k = tt
all_in_front_of P Q R (a ∷ letters) ws f h k =
    all_append R (map (λ w. a ∷ w) ws) (in_front letters ws) (front_over R a ws (all_map Q (λ w. R (a ∷ w)) ws (λ w. f a w h.0) k)) (all_in_front_of P Q R letters ws f h.1 k)

-- a fact of letters, each, is one of all letters of lists that are shorter than n
module _ (P : ℕ → Type 0) where
  pub all_shorter : (letters : List ℕ) (n : ℕ) → AllByRecursion P letters → AllByRecursion (AllByRecursion P) (shorter letters n)
  all_shorter letters zero h = tt
  all_shorter letters (suc n) h = (tt, all_in_front_of P (AllByRecursion P) (AllByRecursion P) letters (shorter letters n) (λ a w here there. (here, there)) h (all_shorter letters n h))
