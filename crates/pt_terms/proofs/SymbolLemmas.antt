-- Names that are looked up in a map, and names in the order of their levels.
use Rattle.std.proofs.Common.{◌≡◌, ℕ, zero, suc, ◌<◌, ◌≤◌, ◌||◌, Bool, true, false, cond, List, [], ◌∷◌, ◌++◌, map, filter, take, slice_get, nat_le, Some, None, option_map, refl, ap, subst, arith}
use Rattle.std.specs.List.{AllByRecursion}
use Rattle.std.specs.Str.{bytes_eq}
use Rattle.std.specs.Map.{lookup}
use Rattle.std.specs.Cmp.Lexicographic.{nat_list_eq_equiv}
use Rattle.std.proofs.lemmas.Bool.Decides.{nat_tests}
use Rattle.pt_grammar.specs.Words.{Name}
use Rattle.pt_terms.specs.Names.{Use, Symbol, find_symbol, is_live}
use Rattle.indexmap.specs.IndexMap.{insert_entry}
use Rattle.pt_terms.specs.Symbols.{AreOrdered}

module _ {K X : Type 0} (name : K → Name) (meaning : X → Use) (level : X → ℕ) where
  abbrev pub seen : K × X → Symbol
  seen e = record { name = name e.0; stands_for = meaning e.1; level = level e.1 }

  -- the first entry with the name gives what the name stands for
  pub find-lookup : (es : List (K × X)) (n : Name) → option_map meaning (lookup (λ k. bytes_eq n (name k)) es) ≡ find_symbol (map seen es) n
  find-lookup [] n = refl
  find-lookup (e ∷ es) n =
      let rest = find-lookup es n in
      rw (nat_list_eq_equiv.symm (name e.0) n)
      (elim (bytes_eq n (name e.0)) as (λ b. option_map meaning (cond b (Some e.1) (lookup (λ k. bytes_eq n (name k)) es)) ≡ cond b (Some (meaning e.1)) (find_symbol (map seen es) n))
      [ true ↦ refl | false ↦ rest ])

  -- a name that is not live is no key
  pub lookup-new : (es : List (K × X)) (n : Name) → is_live (map seen es) n ≡ false → lookup (λ k. bytes_eq n (name k)) es ≡ None
  lookup-new [] n h = refl
  lookup-new (e ∷ es) n h = by (bytes_eq (name e.0) n) refl h (lookup-new es n)
    where
      by : (b : Bool) → bytes_eq (name e.0) n ≡ b → (b || is_live (map seen es) n) ≡ false → (is_live (map seen es) n ≡ false → lookup (λ k. bytes_eq n (name k)) es ≡ None) → cond (bytes_eq n (name e.0)) (Some e.1) (lookup (λ k. bytes_eq n (name k)) es) ≡ None
      by true same h rest = absurd (cc)
      by false same h rest = rw (nat_list_eq_equiv.symm n (name e.0), same) (rest h)

  -- a new name goes last
  pub seen-insert : (es : List (K × X)) (k : K) (x : X) → lookup (λ q. bytes_eq (name k) (name q)) es ≡ None → map seen (insert_entry (λ a b. bytes_eq (name a) (name b)) es k x) ≡ map seen es ++ seen (k, x) ∷ []
  seen-insert [] k x h = refl
  seen-insert (e ∷ es) k x h = by (bytes_eq (name k) (name e.0)) refl h (seen-insert es k x)
    where
      by : (b : Bool) → bytes_eq (name k) (name e.0) ≡ b → cond b (Some e.1) (lookup (λ q. bytes_eq (name k) (name q)) es) ≡ None
          → (lookup (λ q. bytes_eq (name k) (name q)) es ≡ None → map seen (insert_entry (λ a b. bytes_eq (name a) (name b)) es k x) ≡ map seen es ++ seen (k, x) ∷ [])
          → map seen (cond b ((e.0, x) ∷ es) (e ∷ insert_entry (λ a b. bytes_eq (name a) (name b)) es k x)) ≡ seen e ∷ (map seen es ++ seen (k, x) ∷ [])
      by true same h rest = absurd (cc)
      by false same h rest = ap (λ ss. seen e ∷ ss) (rest h)

le-true : {a b : ℕ} → a ≤ b → nat_le a b ≡ true
le-true h = grind (arith, nat_tests)

le-false : {a b : ℕ} → b < a → nat_le a b ≡ false
le-false h = grind (arith, nat_tests)

pub AreOrdered-push : (ss : List Symbol) (s : Symbol) → AreOrdered ss → AllByRecursion (λ (t : Symbol). t.level ≤ s.level) ss → AreOrdered (ss ++ s ∷ [])
AreOrdered-push [] s h below = (tt, tt)
AreOrdered-push (t ∷ ss) s h below = (pushed ss h.0, AreOrdered-push ss s h.1 below.1)
  where
    pushed : (us : List Symbol) → AllByRecursion (λ (u : Symbol). t.level ≤ u.level) us → AllByRecursion (λ (u : Symbol). t.level ≤ u.level) (us ++ s ∷ [])
    pushed [] a = (below.0, tt)
    pushed (u ∷ us) a = (a.0, pushed us a.1)

All-take : {X : Type 0} (P : X → Type 0) (k : ℕ) (xs : List X) → AllByRecursion P xs → AllByRecursion P (take k xs)
All-take P zero xs h = tt
All-take P (suc k) [] h = tt
All-take P (suc k) (x ∷ xs) h = (h.0, All-take P k xs h.1)

pub AreOrdered-take : (k : ℕ) (ss : List Symbol) → AreOrdered ss → AreOrdered (take k ss)
AreOrdered-take zero ss h = tt
AreOrdered-take (suc k) [] h = tt
AreOrdered-take (suc k) (s ∷ ss) h = (All-take (λ (t : Symbol). s.level ≤ t.level) k ss h.0, AreOrdered-take k ss h.1)

pub map-take : {X Y : Type 0} (f : X → Y) (k : ℕ) (xs : List X) → map f (take k xs) ≡ take k (map f xs)
map-take f zero xs = refl
map-take f (suc k) [] = refl
map-take f (suc k) (x ∷ xs) = ap (λ ys. f x ∷ ys) (map-take f k xs)

abbrev pub is_up_to : ℕ → Symbol → Bool
is_up_to level s = nat_le s.level level

All-get : {X : Type 0} (P : X → Type 0) (xs : List X) (i : ℕ) (x : X) → AllByRecursion P xs → slice_get xs i ≡ Some x → P x
All-get P [] i x h e = absurd (cc)
All-get P (y ∷ xs) zero x h e = let same : y ≡ x = cc in subst P same h.0
All-get P (y ∷ xs) (suc i) x h e = All-get P xs i x h.1 e

-- all names before one that is kept are kept
pub kept-front : (ss : List Symbol) (i level : ℕ) (s : Symbol) → AreOrdered ss → slice_get ss i ≡ Some s → s.level ≤ level → filter (is_up_to level) (take (suc i) ss) ≡ take (suc i) ss
kept-front [] i level s h e low = absurd (cc)
kept-front (t ∷ ss) zero level s h e low =
    let same : t ≡ s = cc in
    let fits : t.level ≤ level = rw same low in
    rw (le-true fits) refl
kept-front (t ∷ ss) (suc i) level s h e low =
    let below : t.level ≤ s.level = All-get (λ (u : Symbol). t.level ≤ u.level) ss i s h.0 e in
    let rest = kept-front ss i level s h.1 e low in
    let fits : nat_le t.level level ≡ true = le-true (omega arith) in
    rw (fits, rest) refl

-- a name of a higher level is not kept
pub kept-step : (ss : List Symbol) (i level : ℕ) (s : Symbol) → slice_get ss i ≡ Some s → level < s.level → filter (is_up_to level) (take (suc i) ss) ≡ filter (is_up_to level) (take i ss)
kept-step [] i level s e high = absurd (cc)
kept-step (t ∷ ss) zero level s e high =
    let same : t ≡ s = cc in
    let over : nat_le t.level level ≡ false = le-false (rw same high) in
    rw over refl
kept-step (t ∷ ss) (suc i) level s e high = ap (λ us. cond (nat_le t.level level) (t ∷ us) us) (kept-step ss i level s e high)

pub get-map : {X Y : Type 0} (f : X → Y) (xs : List X) (i : ℕ) (x : X) → slice_get xs i ≡ Some x → slice_get (map f xs) i ≡ Some (f x)
get-map f [] i x e = absurd (cc)
get-map f (y ∷ xs) zero x e = let same : y ≡ x = cc in ap (λ z. Some (f z)) same
get-map f (y ∷ xs) (suc i) x e = get-map f xs i x e
