-- Words that are found one after the other.
use Rattle.std.proofs.Common.{◌≡◌, ◌≢◌, inl, inr, ℕ, zero, suc, ◌+◌, ◌-◌, ◌<◌, ◌≤◌, List, [], ◌∷◌, ◌++◌, length, get_or, take, reverse, Option, None, Some, refl, ap, sym, ◌∙◌, subst, arith}
use Rattle.std.proofs.lemmas.List.{take_more}
use Rattle.std.specs.Prelude.{ℤ, slice_get, IfSome, IfNone}
use Rattle.std.specs.List.{AllByRecursion}
use Rattle.std.specs.Global.{Vec}
use Rattle.std.proofs.lemmas.Bool.{cases_lt}
use Rattle.pt_sets.specs.Words.{Vector, AreLetters, IsWord, value}
use Rattle.pt_base.specs.Elements.{ContainsByRecursion, PairsByRecursion}
use Rattle.pt_sets.specs.Automata.{Automaton, next_of}
use Rattle.pt_sets.specs.Shortlex.{IsLexBefore, IsShortlexBefore}
use Rattle.pt_query.specs.Fresh.{IsFreshFrom, IsLeastFrom, HasNoneFrom, IsLeastAfter, HasNoneAfter, words_of, IsListed, IsNextWord, HasNoNextWord, FoundAll, IsReversed, AreShortWords, values_of}
use Rattle.pt_query.specs.Queries.{vectors_of}
use Rattle.pt_query.proofs.Access.{shortlex-trans}
use Rattle.pt_query.proofs.FreshWords.{first-zero}

-- lists

pub words-push : (vs : List (Vec ℕ)) (v : Vec ℕ) → words_of (vs ++ v ∷ []) ≡ words_of vs ++ v.items ∷ []
words-push [] v = refl
words-push (x ∷ vs) v = ap (λ (ws : List (List ℕ)). x.items ∷ ws) (words-push vs v)

pub length-words : (vs : List (Vec ℕ)) → length (words_of vs) ≡ length vs
length-words [] = refl
length-words (x ∷ vs) = ap suc (length-words vs)

pub all-push : {X : Type 0} (P : X → Type 0) (xs : List X) (x : X) → AllByRecursion P xs → P x → AllByRecursion P (xs ++ x ∷ [])
all-push P [] x all last = (last, tt)
all-push P (y ∷ xs) x all last = (all.0, all-push P xs x all.1 last)

pub all-turned : {X : Type 0} (P Q : X → Type 0) → ((x : X) → P x → Q x) → (xs : List X) → AllByRecursion P xs → AllByRecursion Q xs
all-turned P Q f [] all = tt
all-turned P Q f (x ∷ xs) all = (f x all.0, all-turned P Q f xs all.1)

all-front : {X : Type 0} (P : X → Type 0) (xs : List X) (x : X) → AllByRecursion P (xs ++ x ∷ []) → AllByRecursion P xs × P x
all-front P [] x all = (tt, all.0)
all-front P (y ∷ xs) x all = let (front, last) = all-front P xs x all.1 in ((all.0, front), last)

pub pairs-push : {X : Type 0} (R : X → X → Type 0) (xs : List X) (x : X) → PairsByRecursion R xs → AllByRecursion (λ y. R y x) xs → PairsByRecursion R (xs ++ x ∷ [])
pairs-push R [] x pairs all = (tt, tt)
pairs-push R (y ∷ xs) x pairs all = (all-push (R y) xs x pairs.0 all.0, pairs-push R xs x pairs.1 all.1)

pairs-last : {X : Type 0} (R : X → X → Type 0) (xs : List X) (x : X) → PairsByRecursion R (xs ++ x ∷ []) → AllByRecursion (λ y. R y x) xs
pairs-last R [] x pairs = tt
pairs-last R (y ∷ xs) x pairs = ((all-front (R y) xs x pairs.0).1, pairs-last R xs x pairs.1)

pub in-push : {X : Type 0} (y : X) (xs : List X) (x : X) → ContainsByRecursion y xs → ContainsByRecursion y (xs ++ x ∷ [])
in-push y [] x h = absurd h
in-push y (z ∷ xs) x (inl same) = inl same
in-push y (z ∷ xs) x (inr there) = inr (in-push y xs x there)

pub in-last : {X : Type 0} (y : X) (xs : List X) (x : X) → y ≡ x → ContainsByRecursion y (xs ++ x ∷ [])
in-last y [] x same = inl same
in-last y (z ∷ xs) x same = inr (in-last y xs x same)

not-empty : (a : Automaton) (before : Option ℕ) (q : ℕ) (w : List ℕ) → IsFreshFrom a before q w → 0 < length w
not-empty a before q [] h = absurd h
not-empty a before q (s ∷ w) h = omega arith

pub fresh-letters : (a : Automaton) (before : Option ℕ) (q : ℕ) (w : List ℕ) → IsFreshFrom a before q w → AreLetters a.tracks w
fresh-letters a before q [] h = tt
fresh-letters a before q (s ∷ []) h = (h.0, tt)
fresh-letters a before q (l ∷ m ∷ w) h = (h.0, fresh-letters a (Some l) (next_of a q l) (m ∷ w) h.1)

module _ (a : Automaton) (q : ℕ) where
  pub listed-begins : IsListed a q 0 []
  listed-begins = record {
    fresh = tt;
    short = tt;
    order = tt;
    shorter = λ y h len. absurd (omega arith);
    rest = λ y h len. absurd (let some = not-empty a None q y h in omega (arith, some, len));
  }

  pub all-begins : FoundAll a q 0 []
  all-begins y h len = absurd (let some = not-empty a None q y h in omega (arith, some, len))

  module _ (n : ℕ) (found : List (List ℕ)) (is : IsListed a q n found) where
    pub listed-longer : FoundAll a q n found → IsListed a q (n + 1) found
    listed-longer all = record {
      fresh = is.fresh;
      short = all-turned (λ x. length x ≤ n) (λ x. length x ≤ n + 1) (λ x h. omega arith) found is.short;
      order = is.order;
      shorter = λ y h len. all y h (omega arith);
      rest = λ y h len. inr (all-turned (λ x. length x ≤ n) (λ x. IsShortlexBefore x y) (λ x le. inl (omega arith)) found is.short);
    }

    pub listed-push : (w : List ℕ) → IsNextWord a q n found w → IsListed a q n (found ++ w ∷ [])
    listed-push w next = record {
      fresh = all-push (IsFreshFrom a None q) found w is.fresh next.fresh;
      short = all-push (λ x. length x ≤ n) found w is.short (omega (arith, next.count));
      order = pairs-push IsShortlexBefore found w is.order next.after;
      shorter = λ y h len. in-push y found w (is.shorter y h len);
      rest = λ y h len. elim (is.rest y h len) [
        | inl inside ↦ inl (in-push y found w inside)
        | inr all ↦ elim (next.least y h len all) [
          | inl same ↦ inl (in-last y found w same)
          | inr later ↦ inr (all-push (λ x. IsShortlexBefore x y) found w all (inr (next.count ∙ sym len, later)))
        ]
      ];
    }

    pub listed-ends : HasNoNextWord a q n found → FoundAll a q n found
    listed-ends none y h len = elim (cases_lt (length y) n) [
      | inl less ↦ is.shorter y h less
      | inr ge ↦ let count : length y ≡ n = omega arith in elim (is.rest y h count) [ inl inside ↦ inside | inr all ↦ absurd (none y h count all) ]
    ]

    -- all found words have fewer letters
    module _ (less : AllByRecursion (λ x. length x < n) found) where
      earlier : (y : List ℕ) → length y ≡ n → AllByRecursion (λ x. IsShortlexBefore x y) found
      earlier y len = all-turned (λ x. length x < n) (λ x. IsShortlexBefore x y) (λ x h. inl (omega arith)) found less

      pub next-from : (w : List ℕ) → IsLeastFrom a None q n 0 w → IsNextWord a q n found w
      next-from w least = record { fresh = least.fresh; count = least.count; after = earlier w least.count; least = λ y h len all. least.least y h len (first-zero a None q y h) }

      pub none-from : HasNoneFrom a None q n 0 → HasNoNextWord a q n found
      none-from none y h len all = none y h len (first-zero a None q y h)

    -- the last of them
    module _ (xs : List (List ℕ)) (b : List ℕ) (split : found ≡ xs ++ b ∷ []) where
      behind : AllByRecursion (λ x. IsShortlexBefore x b) xs
      behind = pairs-last IsShortlexBefore xs b (subst (λ (ws : List (List ℕ)). PairsByRecursion IsShortlexBefore ws) split is.order)

      pub last-fresh : IsFreshFrom a None q b
      last-fresh = (all-front (IsFreshFrom a None q) xs b (subst (λ (ws : List (List ℕ)). AllByRecursion (IsFreshFrom a None q) ws) split is.fresh)).1

      pub all-less : length b ≢ n → AllByRecursion (λ x. length x < n) found
      all-less other =
          let short = (all-front (λ x. length x ≤ n) xs b (subst (λ (ws : List (List ℕ)). AllByRecursion (λ x. length x ≤ n) ws) split is.short)).1 in
          subst (λ (ws : List (List ℕ)). AllByRecursion (λ x. length x < n) ws) (sym split)
          (all-push (λ x. length x < n) xs b (all-turned (λ x. IsShortlexBefore x b) (λ x. length x < n) (λ x before. shorter x before short) xs behind) (omega (arith, short, other)))
        where
          shorter : (x : List ℕ) → IsShortlexBefore x b → length b ≤ n → length x < n
          shorter x (inl h) short = omega (arith, h, short)
          shorter x (inr h) short = omega (arith, h.0, short, other)

      module _ (count : length b ≡ n) where
        all-before : (y : List ℕ) → IsShortlexBefore b y → AllByRecursion (λ x. IsShortlexBefore x y) found
        all-before y before = subst (λ (ws : List (List ℕ)). AllByRecursion (λ x. IsShortlexBefore x y) ws) (sym split)
            (all-push (λ x. IsShortlexBefore x y) xs b (all-turned (λ x. IsShortlexBefore x b) (λ x. IsShortlexBefore x y) (λ x h. shortlex-trans x b y h before) xs behind) before)

        last-before : (y : List ℕ) → length y ≡ n → AllByRecursion (λ x. IsShortlexBefore x y) found → IsLexBefore b y
        last-before y len all = lex (all-front (λ x. IsShortlexBefore x y) xs b (subst (λ (ws : List (List ℕ)). AllByRecursion (λ x. IsShortlexBefore x y) ws) split all)).1
          where
            lex : IsShortlexBefore b y → IsLexBefore b y
            lex (inl h) = absurd (omega (arith, h, count, len))
            lex (inr h) = h.1

        pub next-after : (w : List ℕ) → IsLeastAfter a None q b w → IsNextWord a q n found w
        next-after w least = record {
          fresh = least.fresh;
          count = least.count ∙ count;
          after = all-before w (inr (sym least.count, least.after));
          least = λ y h len all. least.least y h (len ∙ sym count) (last-before y len all);
        }

        pub none-after : HasNoneAfter a None q b → HasNoNextWord a q n found
        none-after none y h len all = none y h (len ∙ sym count) (last-before y len all)

-- the last item

pub last-split : {X : Type 0} (xs : List X) (i : ℕ) (v : X) → suc i ≡ length xs → slice_get xs i ≡ Some v → (front : List X) × (xs ≡ front ++ v ∷ [])
last-split [] i v len is = absurd (omega arith)
last-split (x ∷ []) zero v len is = ([], ap (λ y. y ∷ []) (let same : x ≡ v = cc in same))
last-split (x ∷ []) (suc i) v len is = absurd (omega arith)
last-split (x ∷ y ∷ xs) zero v len is = absurd (omega arith)
last-split (x ∷ y ∷ xs) (suc i) v len is = let (front, split) = last-split (y ∷ xs) i v (omega arith) is in (x ∷ front, ap (λ ys. x ∷ ys) split)

some-at : {X : Type 0} (xs : List X) (i : ℕ) → i < length xs → slice_get xs i ≡ None → ⊥
some-at [] i h is = omega arith
some-at (x ∷ xs) zero h is = cc
some-at (x ∷ xs) (suc i) h is = some-at xs i (omega arith) is

-- where a last item was read, it is the last, and where none was, there is none
pub last-word : (vs : List (Vec ℕ)) (v : Vec ℕ) → slice_get vs (length vs - 1) ≡ Some v → (front : List (List ℕ)) × (words_of vs ≡ front ++ v.items ∷ [])
last-word [] v is = absurd (cc)
last-word (x ∷ vs) v is =
    let (front, split) = last-split (x ∷ vs) (length (x ∷ vs) - 1) v (omega arith) is in
    (words_of front, ap words_of split ∙ words-push front v)

pub no-last : (vs : List (Vec ℕ)) → slice_get vs (length vs - 1) ≡ None → words_of vs ≡ []
no-last [] is = refl
no-last (x ∷ vs) is = absurd (some-at (x ∷ vs) (length (x ∷ vs) - 1) (omega arith) is)

-- a word the other way round
pub reversed-some : (P : List ℕ → Type 0) (x y : Option (Vec ℕ)) → IsReversed x y → IfSome x (λ w. P (reverse w.items)) → IfSome y (λ w. P w.items)
reversed-some P None None is h = h
reversed-some P None (Some w) is h = absurd is
reversed-some P (Some v) None is h = absurd is
reversed-some P (Some v) (Some w) is h = subst P (sym is) h

pub reversed-none : (P : Type 0) (x y : Option (Vec ℕ)) → IsReversed x y → IfNone x P → IfNone y P
reversed-none P None None is h = h
reversed-none P None (Some w) is h = absurd is
reversed-none P (Some v) None is h = absurd is
reversed-none P (Some v) (Some w) is h = h

pub some-turned : (P Q : List ℕ → Type 0) (x : Option (Vec ℕ)) → ((w : List ℕ) → P w → Q w) → IfSome x (λ w. P (reverse w.items)) → IfSome x (λ w. Q (reverse w.items))
some-turned P Q None f h = h
some-turned P Q (Some v) f h = f (reverse v.items) h

pub none-turned : (P Q : Type 0) (x : Option (Vec ℕ)) → (P → Q) → IfNone x P → IfNone x Q
none-turned P Q None f h = f h
none-turned P Q (Some v) f h = h

-- words and vectors by place

pub words-at : (vs : List (Vec ℕ)) (i : ℕ) (d : Vec ℕ) → i < length vs → get_or (words_of vs) i [] ≡ (get_or vs i d).items
words-at [] i d h = absurd (omega arith)
words-at (v ∷ vs) zero d h = refl
words-at (v ∷ vs) (suc i) d h = words-at vs i d (omega arith)

pub short-at : (t : ℕ) (ws : List (List ℕ)) (i : ℕ) → AreShortWords t ws → i < length ws → IsWord t (get_or ws i []) × (length (get_or ws i []) ≤ 128)
short-at t [] i all h = absurd (omega arith)
short-at t (w ∷ ws) zero all h = all.0
short-at t (w ∷ ws) (suc i) all h = short-at t ws i all.1 (omega arith)

pub vectors-push : (vs : List (Vec ℤ)) (v : Vec ℤ) → vectors_of (vs ++ v ∷ []) ≡ vectors_of vs ++ v.items ∷ []
vectors-push [] v = refl
vectors-push (x ∷ vs) v = ap (λ (zs : List Vector). x.items ∷ zs) (vectors-push vs v)

values-push : (t : ℕ) (ws : List (List ℕ)) (w : List ℕ) → values_of t (ws ++ w ∷ []) ≡ values_of t ws ++ value t w ∷ []
values-push t [] w = refl
values-push t (x ∷ ws) w = ap (λ (zs : List Vector). value t x ∷ zs) (values-push t ws w)

pub values-take : (t i : ℕ) (ws : List (List ℕ)) → i < length ws → values_of t (take (i + 1) ws) ≡ values_of t (take i ws) ++ value t (get_or ws i []) ∷ []
values-take t i ws h = ap (values_of t) (take_more ws i [] h) ∙ values-push t (take i ws) (get_or ws i [])
