-- Sorts of variables stay while more are given out.
use Rattle.std.proofs.Common.{◌≡◌, ◌≢◌, ℕ, zero, suc, ◌<◌, ◌≤◌, Bool, true, false, ◌&&◌, List, [], ◌∷◌, ◌++◌, length, arith, refl, sym, ap, subst, length-append}
use Rattle.std.proofs.lemmas.Option.{slice_get_within}
use Rattle.pt_formula.specs.Forms.{Monomial}
use Rattle.pt_terms.specs.declared.meaning.Sort.{Sort}
use Rattle.pt_terms.specs.declared.meaning.Sort.TheVariants as sort
use Rattle.pt_terms.specs.Sorts.{HasSort, HaveSorts, AreIntegers, same_sort, same_sorts}

-- more may have been given out
abbrev pub Longer : List Sort → List Sort → Type 0
Longer old new = (more : List Sort) × (new ≡ old ++ more)

pub no-longer : (given : List Sort) → Longer given given
no-longer given = ([], sym (append-none given))
  where
    append-none : (xs : List Sort) → xs ++ [] ≡ xs
    append-none [] = refl
    append-none (x ∷ xs) = ap (λ ys. x ∷ ys) (append-none xs)

pub longer-length : (old new : List Sort) → Longer old new → length old ≤ length new
longer-length old new h = omega (arith, length-append old h.0, ap length h.1)

pub has-below : (given : List Sort) (v : ℕ) (t : Sort) → HasSort given v t → v < length given
has-below given v t h = slice_get_within given v t h

get-front : (old more : List Sort) (v : ℕ) (t : Sort) → HasSort old v t → HasSort (old ++ more) v t
get-front [] more v t h = absurd cc
get-front (s ∷ old) more zero t h = h
get-front (s ∷ old) more (suc v) t h = get-front old more v t h

pub has-more : (old new : List Sort) (v : ℕ) (t : Sort) → Longer old new → HasSort old v t → HasSort new v t
has-more old new v t h k = subst (λ (given : List Sort). HasSort given v t) (sym h.1) (get-front old h.0 v t k)

-- the last one
pub has-last : (given : List Sort) (t : Sort) → HasSort (given ++ t ∷ []) (length given) t
has-last [] t = refl
has-last (s ∷ given) t = has-last given t

pub have-more : (old new : List Sort) (vs : List ℕ) (ts : List Sort) → Longer old new → HaveSorts old vs ts → HaveSorts new vs ts
have-more old new [] [] h k = tt
have-more old new [] (t ∷ ts) h k = absurd k
have-more old new (v ∷ vs) [] h k = absurd k
have-more old new (v ∷ vs) (t ∷ ts) h k = (has-more old new v t h k.0, have-more old new vs ts h k.1)

pub have-length : (given : List Sort) (vs : List ℕ) (ts : List Sort) → HaveSorts given vs ts → length ts ≡ length vs
have-length given [] [] h = refl
have-length given [] (t ∷ ts) h = absurd h
have-length given (v ∷ vs) [] h = absurd h
have-length given (v ∷ vs) (t ∷ ts) h = ap suc (have-length given vs ts h.1)

-- one more at the end
pub have-last : (given : List Sort) (vs : List ℕ) (ts : List Sort) (v : ℕ) (t : Sort) → HaveSorts given vs ts → HasSort given v t → HaveSorts given (vs ++ v ∷ []) (ts ++ t ∷ [])
have-last given [] [] v t h k = (k, tt)
have-last given [] (s ∷ ts) v t h k = absurd h
have-last given (u ∷ vs) [] v t h k = absurd h
have-last given (u ∷ vs) (s ∷ ts) v t h k = (h.0, have-last given vs ts v t h.1 k)

pub integers-more : (old new : List Sort) (ts : List Monomial) → Longer old new → AreIntegers old ts → AreIntegers new ts
integers-more old new [] h k = tt
integers-more old new (t ∷ ts) h k = (has-more old new t.0 sort.Int h k.0, integers-more old new ts h k.1)

same-sort : (s t : Sort) → same_sort s t ≡ true → s ≡ t
same-sort sort.Int sort.Int e = refl
same-sort sort.Bool sort.Bool e = refl
same-sort sort.Int sort.Bool e = absurd cc
same-sort sort.Bool sort.Int e = absurd cc

-- the test of equal lists of sorts
pub same-sorts : (ss ts : List Sort) → same_sorts ss ts ≡ true → ss ≡ ts
same-sorts [] [] e = refl
same-sorts [] (t ∷ ts) e = absurd cc
same-sorts (s ∷ ss) [] e = absurd cc
same-sorts (s ∷ ss) (t ∷ ts) e = by-first (same_sort s t) refl e (same-sorts ss ts)
  where
    by-first : (b : Bool) → same_sort s t ≡ b → (b && same_sorts ss ts) ≡ true → (same_sorts ss ts ≡ true → ss ≡ ts) → s ∷ ss ≡ t ∷ ts
    by-first true same k rest = let head : s ≡ t = same-sort s t same in let tail : ss ≡ ts = rest k in cc
    by-first false same k rest = absurd cc

-- lists of other lengths are not equal
pub other-lengths : (ss ts : List Sort) → length ss ≢ length ts → same_sorts ss ts ≡ false
other-lengths [] [] n = absurd (n refl)
other-lengths [] (t ∷ ts) n = refl
other-lengths (s ∷ ss) [] n = refl
other-lengths (s ∷ ss) (t ∷ ts) n = by-first (same_sort s t) (other-lengths ss ts (λ e. n (ap suc e)))
  where
    by-first : (b : Bool) → same_sorts ss ts ≡ false → (b && same_sorts ss ts) ≡ false
    by-first true rest = rest
    by-first false rest = refl
