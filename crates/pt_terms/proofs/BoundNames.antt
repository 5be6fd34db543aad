-- Numbers of names, and bindings that are found by them.
use Rattle.std.proofs.Common.{◌≡◌, ℕ, zero, suc, ◌+◌, ◌-◌, ◌<◌, ◌≤◌, ◌==◌, ◌||◌, Bool, true, false, cond, if◌then◌else◌, List, [], ◌∷◌, ◌++◌, length, map, reverse, slice_get, set, get_or, take, drop, All, is_some, length-append, Option, Some, None, option_map, refl, ap, sym, subst, ◌∙◌, arith}
use Rattle.std.specs.List.{list_any, find}
use Rattle.std.proofs.lemmas.List.Elements.{All-append}
use Rattle.std.specs.Str.{bytes_eq}
use Rattle.std.specs.Cmp.Lexicographic.{nat_list_eq_equiv, bytes_decides}
use Rattle.std.proofs.lemmas.Bool.Decides.{nat_tests}
use Rattle.std.proofs.lemmas.List.{map-append, reverse-append, length-reverse, length-map, length-drop, drop-drop, get_or_append_left, reverse-reverse}
use Rattle.indexmap.specs.IndexSet.{insert_key}
use Rattle.pt_terms.specs.declared.meaning.Bound.{Bound}
use Rattle.pt_terms.specs.declared.bindings.Binding.{Binding}
use Rattle.pt_grammar.specs.Words.{Name}
use Rattle.pt_terms.specs.Names.{find_bound}
use Rattle.pt_grammar.specs.Words.{is_among}
use Rattle.pt_terms.proofs.SymbolLemmas.{get-map}
use Rattle.pt_terms.specs.Bindings.{name_at, shown_binding, newest_place, AreLinked, AreDistinct, place_in}

-- ---- equal names

pub eq_true : (a b : Name) → bytes_eq a b ≡ true → a ≡ b
eq_true a b h = (bytes_decides a b).0 h

same_eq : (a : Name) → bytes_eq a a ≡ true
same_eq a = nat_list_eq_equiv.refl a

eq_flip : (a b : Name) → bytes_eq a b ≡ bytes_eq b a
eq_flip a b = nat_list_eq_equiv.symm a b

pub find_passes : {X : Type 0} (p : X → Bool) (xs : List X) (x : X) → find p xs ≡ Some x → p x ≡ true
find_passes p [] x h = absurd (cc)
find_passes p (y ∷ ys) x h = by (p y) refl h (find_passes p ys x)
  where
    by : (b : Bool) → p y ≡ b → cond b (Some y) (find p ys) ≡ Some x → (find p ys ≡ Some x → p x ≡ true) → p x ≡ true
    by true e h rest = let same : y ≡ x = cc in subst (λ z. p z ≡ true) same e
    by false e h rest = rest h

-- ---- names with numbers

any_none : (n : Name) (names : List Name) (j : ℕ) → list_any (bytes_eq n) names ≡ false → j < length names → bytes_eq n (name_at names j) ≡ false
any_none n [] j h lt = absurd (omega arith)
any_none n (m ∷ names) zero h lt = by (bytes_eq n m) h
  where
    by : (b : Bool) → (b || list_any (bytes_eq n) names) ≡ false → b ≡ false
    by true e = absurd (cc)
    by false e = refl
any_none n (m ∷ names) (suc j) h lt = any_none n names j (by (bytes_eq n m) h) (omega arith)
  where
    by : (b : Bool) → (b || list_any (bytes_eq n) names) ≡ false → list_any (bytes_eq n) names ≡ false
    by true e = absurd (cc)
    by false e = e

-- the name of a number is the name of no other
pub same_number : (names : List Name) (n : ℕ) (name : Name) → AreDistinct names → n < length names → name_at names n ≡ name → (j : ℕ) → j < length names → bytes_eq (name_at names j) name ≡ (j == n)
same_number [] n name d lt is j lt' = absurd (omega arith)
same_number (m ∷ names) zero name d lt is zero lt' = ap (λ x. bytes_eq m x) (sym is) ∙ same_eq m
same_number (m ∷ names) zero name d lt is (suc j) lt' =
    ap (bytes_eq (name_at names j)) (sym is) ∙ eq_flip (name_at names j) m ∙ any_none m names j d.0 (omega arith) ∙ sym (apart j)
  where
    apart : (j : ℕ) → (suc j == zero) ≡ false
    apart j = grind (arith, nat_tests)
same_number (m ∷ names) (suc n) name d lt is zero lt' =
    ap (bytes_eq m) (sym is) ∙ any_none m names n d.0 (omega arith) ∙ sym (apart n)
  where
    apart : (n : ℕ) → (zero == suc n) ≡ false
    apart n = grind (arith, nat_tests)
same_number (m ∷ names) (suc n) name d lt is (suc j) lt' = same_number names n name d.1 (omega arith) is j (omega arith) ∙ shifted j n
  where
    shifted : (j n : ℕ) → (j == n) ≡ (suc j == suc n)
    shifted j n = grind (arith, nat_tests)

pub no_number : (names : List Name) (name : Name) → list_any (bytes_eq name) names ≡ false → (j : ℕ) → j < length names → bytes_eq (name_at names j) name ≡ false
no_number names name h j lt = eq_flip (name_at names j) name ∙ any_none name names j h lt

pub name_at-append : (names more : List Name) (j : ℕ) → j < length names → name_at (names ++ more) j ≡ name_at names j
name_at-append [] more j lt = absurd (omega arith)
name_at-append (m ∷ names) more zero lt = refl
name_at-append (m ∷ names) more (suc j) lt = name_at-append names more j (omega arith)

AreDistinct-push : (names : List Name) (n : Name) → AreDistinct names → list_any (bytes_eq n) names ≡ false → AreDistinct (names ++ n ∷ [])
AreDistinct-push [] n d h = (refl, tt)
AreDistinct-push (m ∷ names) n d h = (pushed (bytes_eq n m) refl h, AreDistinct-push names n d.1 (later (bytes_eq n m) h))
  where
    later : (b : Bool) → (b || list_any (bytes_eq n) names) ≡ false → list_any (bytes_eq n) names ≡ false
    later true e = absurd (cc)
    later false e = e

    any_push : (ms : List Name) → bytes_eq m n ≡ false → list_any (bytes_eq m) ms ≡ false → list_any (bytes_eq m) (ms ++ n ∷ []) ≡ false
    any_push [] e h = rw e refl
    any_push (k ∷ ms) e h = by (bytes_eq m k) h (any_push ms e)
      where
        by : (b : Bool) → (b || list_any (bytes_eq m) ms) ≡ false → (list_any (bytes_eq m) ms ≡ false → list_any (bytes_eq m) (ms ++ n ∷ []) ≡ false) → (b || list_any (bytes_eq m) (ms ++ n ∷ [])) ≡ false
        by true e rest = absurd (cc)
        by false e rest = rest e

    pushed : (b : Bool) → bytes_eq n m ≡ b → (b || list_any (bytes_eq n) names) ≡ false → list_any (bytes_eq m) (names ++ n ∷ []) ≡ false
    pushed true e h = absurd (cc)
    pushed false e h = any_push names (eq_flip m n ∙ e) d.0

-- the names after an insertion
module _ {K : Type 0} (name : K → Name) where
  list_any-map : (k : K) (ks : List K) → list_any (λ x. bytes_eq (name k) (name x)) ks ≡ list_any (bytes_eq (name k)) (map name ks)
  list_any-map k [] = refl
  list_any-map k (x ∷ ks) = ap (λ b. bytes_eq (name k) (name x) || b) (list_any-map k ks)

  pub inserted_names : (ks : List K) (k : K) → (more : List Name) × (map name (insert_key (λ a b. bytes_eq (name a) (name b)) ks k) ≡ map name ks ++ more)
  inserted_names ks k =
      elim (list_any (λ x. bytes_eq (name k) (name x)) ks) as (λ b. (more : List Name) × (map name (cond b ks (ks ++ k ∷ [])) ≡ map name ks ++ more)) [
        | true ↦ ([], sym (append_nil (map name ks)))
        | false ↦ (name k ∷ [], map-append name ks (k ∷ []))
      ]
    where
      append_nil : (xs : List Name) → xs ++ [] ≡ xs
      append_nil [] = refl
      append_nil (x ∷ xs) = ap (λ ys. x ∷ ys) (append_nil xs)

  pub inserted_distinct : (ks : List K) (k : K) → AreDistinct (map name ks) → AreDistinct (map name (insert_key (λ a b. bytes_eq (name a) (name b)) ks k))
  inserted_distinct ks k d = by (list_any (λ x. bytes_eq (name k) (name x)) ks) refl
    where
      by : (b : Bool) → list_any (λ x. bytes_eq (name k) (name x)) ks ≡ b → AreDistinct (map name (cond b ks (ks ++ k ∷ [])))
      by true e = d
      by false e = rw (map-append name ks (k ∷ [])) (AreDistinct-push (map name ks) (name k) d (sym (list_any-map k ks) ∙ e))

  pub name_of-get : (ks : List K) (i : ℕ) (k : K) → slice_get ks i ≡ Some k → name_at (map name ks) i ≡ name k
  name_of-get [] i k h = absurd (cc)
  name_of-get (x ∷ ks) zero k h = let same : x ≡ k = cc in ap name same
  name_of-get (x ∷ ks) (suc i) k h = name_of-get ks i k h

-- ---- places of bindings

pub place_in-push : (xs : List (Option ℕ)) (n : ℕ) → place_in (xs ++ None ∷ []) n ≡ place_in xs n
place_in-push [] zero = refl
place_in-push [] (suc n) = refl
place_in-push (x ∷ xs) zero = refl
place_in-push (x ∷ xs) (suc n) = place_in-push xs n

pub place_in-set : (xs : List (Option ℕ)) (k : ℕ) (v : Option ℕ) (n : ℕ) → k < length xs → place_in (set xs k v) n ≡ (if k == n then v else place_in xs n)
place_in-set [] k v n h = absurd (omega arith)
place_in-set (x ∷ xs) zero v zero h = refl
place_in-set (x ∷ xs) zero v (suc n) h = let apart : (zero == suc n) ≡ false = grind (arith, nat_tests) in rw apart refl
place_in-set (x ∷ xs) (suc k) v zero h = let apart : (suc k == zero) ≡ false = grind (arith, nat_tests) in rw apart refl
place_in-set (x ∷ xs) (suc k) v (suc n) h = place_in-set xs k v n (omega arith) ∙ shifted k n
  where
    shifted : (k n : ℕ) → (if k == n then v else place_in xs n) ≡ (if suc k == suc n then v else place_in xs n)
    shifted k n = let same : (k == n) ≡ (suc k == suc n) = grind (arith, nat_tests) in ap (λ b. if b then v else place_in xs n) same

pub place_in-get : (xs : List (Option ℕ)) (k : ℕ) (d : Option ℕ) → k < length xs → place_in xs k ≡ get_or xs k d
place_in-get [] k d h = absurd (omega arith)
place_in-get (x ∷ xs) zero d h = refl
place_in-get (x ∷ xs) (suc k) d h = place_in-get xs k d (omega arith)

pub newest_within : (n : ℕ) (bs : List Binding) (i : ℕ) → newest_place n bs ≡ Some i → i < length bs
newest_within n [] i h = absurd (cc)
newest_within n (b ∷ bs) i h = by (b.name == n) h (newest_within n bs i)
  where
    by : (t : Bool) → (if t then Some (length bs) else newest_place n bs) ≡ Some i → (newest_place n bs ≡ Some i → i < length bs) → i < suc (length bs)
    by true h rest = let same : length bs ≡ i = cc in omega arith
    by false h rest = let lt = rest h in omega arith

pub linked_more : (a b : ℕ) (bs : List Binding) → a ≤ b → AreLinked a bs → AreLinked b bs
linked_more a b [] le h = tt
linked_more a b (x ∷ bs) le h = (omega (arith, h.0), h.1, linked_more a b bs le h.2)

-- ---- look-ups

pub find_none : (names : List Name) (name : Name) (bs : List Binding) → AreLinked (length names) bs → ((j : ℕ) → j < length names → bytes_eq (name_at names j) name ≡ false) → find_bound (map (shown_binding names) bs) name ≡ None
find_none names name [] l h = refl
find_none names name (b ∷ bs) l h = rw (h b.name l.0) (find_none names name bs l.2 h)

pub find_unbound : (names : List Name) (n : ℕ) (name : Name) (bs : List Binding) → AreLinked (length names) bs → ((j : ℕ) → j < length names → bytes_eq (name_at names j) name ≡ (j == n)) → newest_place n bs ≡ None → find_bound (map (shown_binding names) bs) name ≡ None
find_unbound names n name [] l h e = refl
find_unbound names n name (b ∷ bs) l h e = rw (h b.name l.0) (by (b.name == n) e (find_unbound names n name bs l.2 h))
  where
    by : (t : Bool) → (if t then Some (length bs) else newest_place n bs) ≡ None → (newest_place n bs ≡ None → find_bound (map (shown_binding names) bs) name ≡ None) → (if t then Some b.stands_for else find_bound (map (shown_binding names) bs) name) ≡ None
    by true e rest = absurd (cc)
    by false e rest = rest e

slice_get-front : {X : Type 0} (xs : List X) (x : X) (i : ℕ) → i < length xs → slice_get (xs ++ x ∷ []) i ≡ slice_get xs i
slice_get-front [] x i h = absurd (omega arith)
slice_get-front (y ∷ xs) x zero h = refl
slice_get-front (y ∷ xs) x (suc i) h = slice_get-front xs x i (omega arith)

slice_get-end : {X : Type 0} (xs : List X) (x : X) (i : ℕ) → i ≡ length xs → slice_get (xs ++ x ∷ []) i ≡ Some x
slice_get-end {X = X} xs x i e = rw e (at_end xs)
  where
    at_end : (xs : List X) → slice_get (xs ++ x ∷ []) (length xs) ≡ Some x
    at_end [] = refl
    at_end (y ∷ xs) = at_end xs

-- the binding at the place that is kept is the one that is found
pub find_newest : (names : List Name) (n : ℕ) (name : Name) (bs : List Binding) (i : ℕ) → AreLinked (length names) bs → ((j : ℕ) → j < length names → bytes_eq (name_at names j) name ≡ (j == n)) → newest_place n bs ≡ Some i
    → find_bound (map (shown_binding names) bs) name ≡ option_map (λ b. b.stands_for) (slice_get (reverse bs) i)
find_newest names n name [] i l h e = absurd (cc)
find_newest names n name (b ∷ bs) i l h e =
    rw (h b.name l.0) (by (b.name == n) e (find_newest names n name bs i l.2 h))
    ∙ ap (λ xs. option_map (λ b. b.stands_for) (slice_get xs i)) (sym (reverse-append (b ∷ []) bs))
  where
    by : (t : Bool) → (if t then Some (length bs) else newest_place n bs) ≡ Some i
        → (newest_place n bs ≡ Some i → find_bound (map (shown_binding names) bs) name ≡ option_map (λ b. b.stands_for) (slice_get (reverse bs) i))
        → (if t then Some b.stands_for else find_bound (map (shown_binding names) bs) name) ≡ option_map (λ b. b.stands_for) (slice_get (reverse bs ++ b ∷ []) i)
    by true e rest = let same : length bs ≡ i = cc in let at : i ≡ length (reverse bs) = sym same ∙ sym (length-reverse bs) in rw (slice_get-end (reverse bs) b i at) refl
    by false e rest = let lt : i < length bs = newest_within n bs i e in rw (slice_get-front (reverse bs) b i (rw (length-reverse bs) lt)) (rest e)

-- the names that are shown do not change where names are added
pub shown_more : (names more : List Name) (bs : List Binding) → AreLinked (length names) bs → map (shown_binding (names ++ more)) bs ≡ map (shown_binding names) bs
shown_more names more [] l = refl
shown_more names more (b ∷ bs) l = rw (name_at-append names more b.name l.0, shown_more names more bs l.2) refl

-- ---- one more binding, and one less

same_length : (names olds more : List Name) → names ≡ olds ++ more → length olds ≤ length names
same_length names olds more e = rw e (omega (arith, length-append olds more))

pub keys_more : {K : Type 0} (name : K → Name) (new old : List K) (more : List Name) → map name new ≡ map name old ++ more → length old ≤ length new
keys_more name new old more e = let le = same_length (map name new) (map name old) more e in rw (← length-map old name, ← length-map new name) le

pub pushed_newest : (newest : List (Option ℕ)) (stack : List Binding) (b : Binding) (place n : ℕ) → b.name < length newest → place ≡ length stack → ((m : ℕ) → place_in newest m ≡ newest_place m (reverse stack)) → place_in (set newest b.name (Some place)) n ≡ newest_place n (reverse (stack ++ b ∷ []))
pushed_newest newest stack b place n lt is h =
    place_in-set newest b.name (Some place) n lt
    ∙ ap (λ p. if b.name == n then Some p else place_in newest n) (is ∙ sym (length-reverse stack))
    ∙ ap (λ q. if b.name == n then Some (length (reverse stack)) else q) (h n)
    ∙ ap (newest_place n) (sym (reverse-append stack (b ∷ [])))

pub pushed_linked : (stack : List Binding) (b : Binding) (count old : ℕ) → b.name < count → b.hidden ≡ newest_place b.name (reverse stack) → old ≤ count → AreLinked old (reverse stack) → AreLinked count (reverse (stack ++ b ∷ []))
pushed_linked stack b count old lt hidden le h = rw (reverse-append stack (b ∷ [])) (lt, hidden, linked_more old count (reverse stack) le h)

pub popped_linked : (stack : List Binding) (b : Binding) (count : ℕ) → AreLinked count (reverse (stack ++ b ∷ [])) → AreLinked count (b ∷ reverse stack)
popped_linked stack b count h = rw (reverse-append stack (b ∷ [])) at h

pub popped_newest : (newest : List (Option ℕ)) (stack : List Binding) (b : Binding) (n : ℕ) → b.name < length newest → b.hidden ≡ newest_place b.name (reverse stack) → ((m : ℕ) → place_in newest m ≡ newest_place m (reverse (stack ++ b ∷ []))) → place_in (set newest b.name b.hidden) n ≡ newest_place n (reverse stack)
popped_newest newest stack b n lt hidden h =
    place_in-set newest b.name b.hidden n lt ∙ by (b.name == n) refl (h n ∙ ap (newest_place n) (reverse-append stack (b ∷ [])))
  where
    by : (t : Bool) → (b.name == n) ≡ t → place_in newest n ≡ (if b.name == n then Some (length (reverse stack)) else newest_place n (reverse stack)) → (if t then b.hidden else place_in newest n) ≡ newest_place n (reverse stack)
    by true e k = let same : b.name ≡ n = grind (arith, nat_tests) in hidden ∙ ap (λ m. newest_place m (reverse stack)) same
    by false e k = k ∙ ap (λ t. if t then Some (length (reverse stack)) else newest_place n (reverse stack)) e

-- what a name that is found among the keys has
pub key_name : {K : Type 0} (name : K → Name) (ks : List K) (n : ℕ) (k : K) (q : Name) → slice_get ks n ≡ Some k → Some k ≡ find (λ x. bytes_eq q (name x)) ks → name_at (map name ks) n ≡ q
key_name name ks n k q stored key = name_of-get name ks n k stored ∙ sym (eq_true q (name k) (find_passes (λ x. bytes_eq q (name x)) ks k (sym key)))

pub within_keys : {K : Type 0} (ks : List K) (n : ℕ) (k : K) → slice_get ks n ≡ Some k → n < length ks
within_keys [] n k h = absurd (cc)
within_keys (x ∷ ks) zero k h = omega arith
within_keys (x ∷ ks) (suc n) k h = let lt = within_keys ks n k h in omega arith

pub slice_get-at : {X : Type 0} (xs : List X) (i : ℕ) (x : X) → i < length xs → x ≡ get_or xs i x → slice_get xs i ≡ Some x
slice_get-at [] i x h e = absurd (omega arith)
slice_get-at (y ∷ xs) zero x h e = ap Some (sym e)
slice_get-at (y ∷ xs) (suc i) x h e = slice_get-at xs i x (omega arith) e

pub any_keys : {K : Type 0} (name : K → Name) (ks : List K) (q : Name) → list_any (λ k. bytes_eq q (name k)) ks ≡ false → list_any (bytes_eq q) (map name ks) ≡ false
any_keys {K = K} name ks q h = sym (same ks) ∙ h
  where
    same : (ks : List K) → list_any (λ k. bytes_eq q (name k)) ks ≡ list_any (bytes_eq q) (map name ks)
    same [] = refl
    same (x ∷ ks) = ap (λ b. bytes_eq q (name x) || b) (same ks)

pub has_found : (bs : List (Name × Bound)) (n : Name) → is_some (find_bound bs n) ≡ is_among n (map (λ b. b.0) bs)
has_found [] n = refl
has_found (b ∷ bs) n =
    rw (eq_flip n b.0) (elim (bytes_eq b.0 n) as (λ t. is_some (if t then Some b.1 else find_bound bs n) ≡ (t || is_among n (map (λ b. b.0) bs))) [ true ↦ refl | false ↦ has_found bs n ])

All-push : (P : Binding → Type 0) (bs : List Binding) (b : Binding) → All P bs → P b → All P (bs ++ b ∷ [])
All-push P bs b h p = All-append P bs (b ∷ []) h (λ k d lt. only k d lt)
  where
    only : (k : ℕ) (d : Binding) → k < suc zero → P (get_or (b ∷ []) k d)
    only zero d lt = p
    only (suc k) d lt = absurd (omega arith)

pub named_more : (stack : List Binding) (count old : ℕ) → old ≤ count → All (λ (b : Binding). b.name < old) stack → All (λ (b : Binding). b.name < count) stack
named_more stack count old le h = λ k d lt. let low : (get_or stack k d).name < old = h k d lt in omega arith

pub pushed_named : (stack : List Binding) (b : Binding) (count old : ℕ) → old ≤ count → b.name < count → All (λ (b : Binding). b.name < old) stack → All (λ (b : Binding). b.name < count) (stack ++ b ∷ [])
pushed_named stack b count old le lt h = All-push (λ (b : Binding). b.name < count) stack b (named_more stack count old le h) lt

pub popped_named : (stack : List Binding) (b : Binding) (count : ℕ) → All (λ (b : Binding). b.name < count) (stack ++ b ∷ []) → All (λ (b : Binding). b.name < count) stack
popped_named stack b count h = λ k d lt. subst (λ (x : Binding). x.name < count) (get_or_append_left stack (b ∷ []) d k lt) (h k d (omega (arith, length-append stack (b ∷ []))))

pub truncated : {X : Type 0} (all self new : List X) → self ≡ drop (length all - length self) all → 0 < length self → length self ≤ length all → new ≡ drop 1 self → new ≡ drop (length all - length new) all
truncated all self new told some le is =
    let long : length new ≡ length self - 1 = ap length is ∙ length-drop 1 self in
    let k : length all - length self + 1 ≡ length all - length new = omega arith in
    is ∙ ap (drop 1) told ∙ drop-drop 1 (length all - length self) all ∙ ap (λ n. drop n all) (sum ∙ k)
  where
    sum : length all - length self + 1 ≡ length all - length self + 1
    sum = refl

pub entry_at : (names : List Name) (stack : List Binding) (i : ℕ) (b : Binding) (n : Name) → slice_get stack i ≡ Some b → name_at names b.name ≡ n → slice_get (reverse (map (shown_binding names) (reverse stack))) i ≡ Some (n, b.stands_for)
entry_at names stack i b n h is =
    ap (λ xs. slice_get xs i) (ap reverse (mapped_back stack) ∙ reverse-reverse (map (shown_binding names) stack))
    ∙ get-map (shown_binding names) stack i b h
    ∙ ap (λ m. Some (m, b.stands_for)) is
  where
    mapped_back : (bs : List Binding) → map (shown_binding names) (reverse bs) ≡ reverse (map (shown_binding names) bs)
    mapped_back [] = refl
    mapped_back (x ∷ bs) =
        ap (map (shown_binding names)) (reverse-append (x ∷ []) bs) ∙ map-append (shown_binding names) (reverse bs) (x ∷ [])
        ∙ ap (λ ys. ys ++ shown_binding names x ∷ []) (mapped_back bs) ∙ sym (reverse-append (shown_binding names x ∷ []) (map (shown_binding names) bs))

pub name_of_key : {K : Type 0} (name : K → Name) (ks : List K) (i : ℕ) (k : K) → i < length ks → k ≡ get_or ks i k → name_at (map name ks) i ≡ name k
name_of_key name ks i k lt e = name_of-get name ks i k (slice_get-at ks i k lt e)

take_next : {X : Type 0} (xs : List X) (i : ℕ) (x : X) → slice_get xs i ≡ Some x → take (i + 1) xs ≡ take i xs ++ x ∷ []
take_next [] i x h = absurd (cc)
take_next (y ∷ xs) zero x h = let same : y ≡ x = cc in ap (λ z. z ∷ []) same
take_next (y ∷ xs) (suc i) x h = rw (one_more i) (ap (λ zs. y ∷ zs) (take_next xs i x h))
  where
    one_more : (i : ℕ) → suc i + 1 ≡ suc (i + 1)
    one_more i = omega arith

pub appended_one : {X : Type 0} (xs old self new : List X) (i : ℕ) (x : X) → slice_get xs i ≡ Some x → self ≡ reverse (take i xs) ++ old → new ≡ x ∷ self → new ≡ reverse (take (i + 1) xs) ++ old
appended_one xs old self new i x h told is =
    is ∙ ap (λ s. x ∷ s) told ∙ ap (λ ys. ys ++ old) (sym (ap reverse (take_next xs i x h) ∙ reverse-append (take i xs) (x ∷ [])))
