-- Dealing numbers, and what is told of them.
use Rattle.std.proofs.Common.{◌≡◌, ◌≢◌, inl, inr, ℕ, zero, suc, ◌+◌, ◌<◌, ◌%◌, Bool, true, false, cond, List, [], ◌∷◌, ◌++◌, length, map, take, refl, ap, sym, subst, ◌∙◌, arith, append_assoc, add-zero, zero-add}
use Rattle.std.specs.Prelude.{All, nat_eq, sum_by, slice_index, slice_index_or}
use Rattle.std.specs.List.{flat_map}
use Rattle.std.specs.List.Sorted.{IsPermutation}
use Rattle.std.specs.Global.{Vec}
use Rattle.std.proofs.lemmas.Bool.{cases_eq}
use Rattle.std.proofs.lemmas.Bool.Decides.{nat_tests}
use Rattle.std.proofs.lemmas.Grind.{common_steps}
use Rattle.std.proofs.lemmas.List.Sums.{sum_by-append}
use Rattle.std.proofs.lemmas.List.Elements.{All-append, All-head, All-tail, All-weaker, All-push}
use Rattle.std.proofs.lemmas.List.Sorted.{IsPermutation-refl, IsPermutation-sym, IsPermutation-trans, IsPermutation-append, IsPermutation-append_left, IsPermutation-append_right, IsPermutation-to_front, Contains-permutation}
use Rattle.pt_workers.specs.Works.{dealt, hand_of, all_of, AreTold, Some_of}
use Rattle.pt_workers.specs.Reports.{Each}

-- ---- dealing

cond-append : (b : Bool) (x : ℕ) (xs ys : List ℕ) → cond b (x ∷ (xs ++ ys)) (xs ++ ys) ≡ cond b (x ∷ xs) xs ++ ys
cond-append true x xs ys = refl
cond-append false x xs ys = refl

-- one more number goes to the hand of the remainder of its place
pub dealt-push : (players k j : ℕ) (xs : List ℕ) (y : ℕ) → dealt players k j (xs ++ y ∷ []) ≡ dealt players k j xs ++ cond (nat_eq ((j + length xs) % players) k) (y ∷ []) []
dealt-push players k j [] y = ap (λ (n : ℕ). cond (nat_eq (n % players) k) (y ∷ []) []) (sym (add-zero j))
dealt-push players k j (x ∷ xs) y =
    let place : (j + 1) + length xs ≡ j + suc (length xs) = omega arith in
    ap (λ (zs : List ℕ). cond (nat_eq (j % players) k) (x ∷ zs) zs)
    (dealt-push players k (j + 1) xs y ∙ ap (λ (n : ℕ). dealt players k (j + 1) xs ++ cond (nat_eq (n % players) k) (y ∷ []) []) place)
    ∙ cond-append (nat_eq (j % players) k) x (dealt players k (j + 1) xs) (cond (nat_eq ((j + suc (length xs)) % players) k) (y ∷ []) [])

pub each-more : (players k j : ℕ) (front : List ℕ) (n : ℕ) (old new : List (Vec ℕ)) → length front ≡ j → hand_of new (j % players) ≡ hand_of old (j % players) ++ n ∷ [] → ((y : ℕ) → y ≢ j % players → hand_of new y ≡ hand_of old y) →
    hand_of old k ≡ dealt players k 0 front → hand_of new k ≡ dealt players k 0 (front ++ n ∷ [])
each-more players k j front n old new count added others before =
    let place : 0 + length front ≡ j = omega (arith, count) in
    let pushed = dealt-push players k 0 front n ∙ ap (λ (m : ℕ). dealt players k 0 front ++ cond (nat_eq (m % players) k) (n ∷ []) []) place in
    elim (cases_eq k (j % players)) [
      | inl here ↦
          (let test : nat_eq (j % players) k ≡ true = grind (arith, nat_tests, here) in
          ap (hand_of new) here ∙ added ∙ ap (λ (y : ℕ). hand_of old y ++ n ∷ []) (sym here) ∙ ap (λ (xs : List ℕ). xs ++ n ∷ []) before
          ∙ sym (pushed ∙ ap (λ (b : Bool). dealt players k 0 front ++ cond b (n ∷ []) []) test))
      | inr apart ↦
          (let test : nat_eq (j % players) k ≡ false = grind (arith, nat_tests, apart) in
          others k apart ∙ before ∙ sym (append-nil (dealt players k 0 front))
          ∙ sym (pushed ∙ ap (λ (b : Bool). dealt players k 0 front ++ cond b (n ∷ []) []) test))
    ]
  where
    append-nil : (xs : List ℕ) → xs ++ [] ≡ xs
    append-nil [] = refl
    append-nil (x ∷ xs) = ap (λ (ys : List ℕ). x ∷ ys) (append-nil xs)

all-same : (old new : List (Vec ℕ)) → length new ≡ length old → ((y : ℕ) → hand_of new y ≡ hand_of old y) → all_of new ≡ all_of old
all-same [] [] len same = refl
all-same [] (v ∷ new) len same = absurd (omega (arith, len))
all-same (o ∷ old) [] len same = absurd (omega (arith, len))
all-same (o ∷ old) (v ∷ new) len same = ap (λ (xs : List ℕ). xs ++ all_of new) (same 0) ∙ ap (λ (xs : List ℕ). o.items ++ xs) (all-same old new (omega (arith, len)) (λ y. same (suc y)))

all-more : (old new : List (Vec ℕ)) (k n : ℕ) → length new ≡ length old → k < length old → hand_of new k ≡ hand_of old k ++ n ∷ [] → ((y : ℕ) → y ≢ k → hand_of new y ≡ hand_of old y) → IsPermutation (all_of old ++ n ∷ []) (all_of new)
all-more [] new k n len lt added others = absurd (omega arith)
all-more (o ∷ old) [] k n len lt added others = absurd (omega (arith, len))
all-more (o ∷ old) (v ∷ new) zero n len lt added others =
    let rest : all_of new ≡ all_of old = all-same old new (omega (arith, len)) (λ y. others (suc y) (omega arith)) in
    let here : v.items ≡ o.items ++ n ∷ [] = added in
    subst (λ (xs : List ℕ). IsPermutation xs (v.items ++ all_of new)) (sym (append_assoc o.items (all_of old) (n ∷ [])))
    (subst (λ (xs : List ℕ). IsPermutation (o.items ++ (all_of old ++ n ∷ [])) (xs ++ all_of new)) (sym here)
    (subst (λ (xs : List ℕ). IsPermutation (o.items ++ (all_of old ++ n ∷ [])) ((o.items ++ n ∷ []) ++ xs)) (sym rest)
    (subst (λ (xs : List ℕ). IsPermutation (o.items ++ (all_of old ++ n ∷ [])) xs) (sym (append_assoc o.items (n ∷ []) (all_of old)))
    (IsPermutation-append_right o.items (all_of old ++ n ∷ []) (n ∷ all_of old) (IsPermutation-to_front (all_of old) n)))))
all-more (o ∷ old) (v ∷ new) (suc k) n len lt added others =
    let here : v.items ≡ o.items = others 0 (omega arith) in
    let rest = all-more old new k n (omega (arith, len)) (omega (arith, lt)) added (λ y apart. others (suc y) (λ e. apart (omega (arith, e)))) in
    subst (λ (xs : List ℕ). IsPermutation xs (v.items ++ all_of new)) (sym (append_assoc o.items (all_of old) (n ∷ [])))
    (subst (λ (xs : List ℕ). IsPermutation (o.items ++ (all_of old ++ n ∷ [])) (xs ++ all_of new)) (sym here)
    (IsPermutation-append_right o.items (all_of old ++ n ∷ []) (all_of new) rest))

pub once-more : (old new : List (Vec ℕ)) (k n : ℕ) (front : List ℕ) → length new ≡ length old → k < length old → hand_of new k ≡ hand_of old k ++ n ∷ [] → ((y : ℕ) → y ≢ k → hand_of new y ≡ hand_of old y) → IsPermutation front (all_of old) → IsPermutation (front ++ n ∷ []) (all_of new)
once-more old new k n front len lt added others once = IsPermutation-trans (front ++ n ∷ []) (all_of old ++ n ∷ []) (all_of new) (IsPermutation-append_left (n ∷ []) front (all_of old) once) (all-more old new k n len lt added others)

-- ---- parts of what was dealt

all-front : (P : ℕ → Type 0) (xs ys : List ℕ) → All P (xs ++ ys) → All P xs × All P ys
all-front P [] ys all = (λ k d lt. absurd (omega arith), all)
all-front P (x ∷ xs) ys all =
    let rest = all-front P xs ys (All-tail P x (xs ++ ys) all) in
    (λ k d lt. at k d lt rest.0, rest.1)
  where
    at : (k d : ℕ) → k < length (x ∷ xs) → All P xs → P (slice_index_or (x ∷ xs) k d)
    at zero d lt rest = All-head P x (xs ++ ys) all
    at (suc k) d lt rest = rest k d (omega arith)

pub all-part : (P : ℕ → Type 0) (hands : List (Vec ℕ)) → All P (all_of hands) → All (λ (hand : Vec ℕ). All P hand.items) hands
all-part P [] all = λ k d lt. absurd (omega arith)
all-part P (hand ∷ hands) all =
    let (here, rest) = all-front P hand.items (all_of hands) all in
    λ k d lt. at k d lt here (all-part P hands rest)
  where
    at : (k : ℕ) (d : Vec ℕ) → k < length (hand ∷ hands) → All P hand.items → All (λ (hand : Vec ℕ). All P hand.items) hands → All P (slice_index_or (hand ∷ hands) k d).items
    at zero d lt here rest = here
    at (suc k) d lt here rest = rest k d (omega arith)

-- what the elements at each place have in common, all have
pub flat-same : {X Y : Type 0} (f : X → List ℕ) (g : Y → List ℕ) (xs : List X) (ys : List Y) → length ys ≡ length xs → Each (λ (x : X) (y : Y). g y ≡ f x) xs ys → flat_map g ys ≡ flat_map f xs
flat-same f g [] [] len same = refl
flat-same f g [] (y ∷ ys) len same = absurd (omega (arith, len))
flat-same f g (x ∷ xs) [] len same = absurd (omega (arith, len))
flat-same f g (x ∷ xs) (y ∷ ys) len same =
    ap (λ (ns : List ℕ). ns ++ flat_map g ys) (same 0 x y (omega arith)) ∙ ap (λ (ns : List ℕ). f x ++ ns) (flat-same f g xs ys (omega (arith, len)) (λ i d e lt. same (suc i) d e (omega arith)))

-- ---- what is told

map-both : {A : Type 0} (xs ys : List (ℕ × A)) → map (λ t. t.0) (xs ++ ys) ≡ map (λ t. t.0) xs ++ map (λ t. t.0) ys
map-both [] ys = refl
map-both (x ∷ xs) ys = ap (λ (ns : List ℕ). x.0 ∷ ns) (map-both xs ys)

pub told-longer : {A : Type 0} (P Q : ℕ → A → Type 0) (numbers : List ℕ) (told : List (ℕ × A)) → ((n : ℕ) (a : A) → P n a → Q n a) → AreTold P numbers told → AreTold Q numbers told
told-longer P Q numbers told into are = record { each = All-weaker (λ t. P t.0 t.1) (λ t. Q t.0 t.1) (λ t p. into t.0 t.1 p) told are.each; once = are.once }

pub told-both : {A : Type 0} (P : ℕ → A → Type 0) (ns ms : List ℕ) (a b : List (ℕ × A)) → AreTold P ns a → AreTold P ms b → AreTold P (ns ++ ms) (a ++ b)
told-both P ns ms a b first second = record {
  each = All-append (λ t. P t.0 t.1) a b first.each second.each;
  once = subst (λ (xs : List ℕ). IsPermutation (ns ++ ms) xs) (sym (map-both a b)) (IsPermutation-append ns (map (λ t. t.0) a) ms (map (λ t. t.0) b) first.once second.once);
}

pub told-moved : {A : Type 0} (P : ℕ → A → Type 0) (ns ms : List ℕ) (told : List (ℕ × A)) → IsPermutation ns ms → AreTold P ms told → AreTold P ns told
told-moved P ns ms told moved are = record { each = are.each; once = IsPermutation-trans ns ms (map (λ t. t.0) told) moved are.once }

pub some-moved : (P : ℕ → Type 0) (ns ms : List ℕ) → IsPermutation ns ms → Some_of ms P → Some_of ns P
some-moved P ns ms moved (n, among, p) = (n, Contains-permutation ms ns n (IsPermutation-sym ns ms moved) among, p)

-- ---- empty hands

pub hand-push : (hands : List (Vec ℕ)) (v : Vec ℕ) (k : ℕ) → v.items ≡ [] → ((y : ℕ) → hand_of hands y ≡ []) → hand_of (hands ++ v ∷ []) k ≡ []
hand-push [] v zero none empty = none
hand-push [] v (suc k) none empty = refl
hand-push (u ∷ hands) v zero none empty = empty 0
hand-push (u ∷ hands) v (suc k) none empty = hand-push hands v k none (λ y. empty (suc y))

pub all-push : (hands : List (Vec ℕ)) (v : Vec ℕ) → v.items ≡ [] → all_of hands ≡ [] → all_of (hands ++ v ∷ []) ≡ []
all-push [] v none empty = ap (λ (xs : List ℕ). xs ++ []) none
all-push (u ∷ hands) v none empty = together u.items (all_of hands) (all_of (hands ++ v ∷ [])) empty (all-push hands v none)
  where
    together : (xs ys zs : List ℕ) → xs ++ ys ≡ [] → (ys ≡ [] → zs ≡ []) → xs ++ zs ≡ []
    together [] ys zs none into = into none
    together (x ∷ xs) ys zs none into = absurd (omega (arith, ap length none))

-- ---- one after another

pub take-next : (xs : List ℕ) (k : ℕ) → k < length xs → take (k + 1) xs ≡ take k xs ++ slice_index xs k ∷ []
take-next xs k lt = grind (arith, common_steps)

pub sum-push : (f : ℕ → ℕ) (xs : List ℕ) (x : ℕ) → sum_by f (xs ++ x ∷ []) ≡ sum_by f xs + f x
sum-push f xs x = sum_by-append f xs (x ∷ []) ∙ ap (λ (n : ℕ). sum_by f xs + n) (zero-add (f x))

pub told-push : {A : Type 0} (P Q : ℕ → A → Type 0) (told : List (ℕ × A)) (n : ℕ) (a : A) → ((m : ℕ) (b : A) → P m b → Q m b) → All (λ t. P t.0 t.1) told → Q n a → All (λ t. Q t.0 t.1) (told ++ (n, a) ∷ [])
told-push P Q told n a into all is = All-push (λ t. Q t.0 t.1) told (n, a) (All-weaker (λ t. P t.0 t.1) (λ t. Q t.0 t.1) (λ t p. into t.0 t.1 p) told all) is

pub numbers-push : {A : Type 0} (told : List (ℕ × A)) (n : ℕ) (a : A) (front : List ℕ) → map (λ t. t.0) told ≡ front → map (λ t. t.0) (told ++ (n, a) ∷ []) ≡ front ++ n ∷ []
numbers-push told n a front is = map-both told ((n, a) ∷ []) ∙ ap (λ (ns : List ℕ). ns ++ n ∷ []) is

pub told-in_order : {A : Type 0} (P : ℕ → A → Type 0) (numbers : List ℕ) (told : List (ℕ × A)) → All (λ t. P t.0 t.1) told → map (λ t. t.0) told ≡ numbers → AreTold P numbers told
told-in_order P numbers told all is = record { each = all; once = subst (λ (ns : List ℕ). IsPermutation numbers ns) (sym is) (IsPermutation-refl numbers) }
