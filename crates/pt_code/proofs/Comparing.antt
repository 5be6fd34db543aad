-- Lists that are compared part by part.
use Rattle.std.proofs.Common.{◌≡◌, ◌≢◌, ℕ, zero, suc, ◌<◌, ◌≤◌, false, List, [], ◌∷◌, ◌++◌, length, refl, ap, sym, ◌∙◌, arith, get_or}
use Rattle.std.specs.Ordering.{nat_cmp, ordering_then, ordering_reverse, is_gt}
use Rattle.std.specs.List.{flat_map}
use Rattle.std.specs.Cmp.Lexicographic.{slice_cmp}
use Rattle.std.specs.declared.cmp.Ordering.{Ordering}
use Rattle.std.specs.declared.cmp.Ordering.TheVariants.{Less, Equal, Greater}
use Rattle.std.proofs.lemmas.Cmp.{nat_list_cmp_total, tied_itself, upto}
use Rattle.std.proofs.lemmas.Map.Lookups.{exact_bytes}
use Rattle.pt_code.specs.Parts.{IsVerdict}

then-assoc : (a b c : Ordering) → ordering_then a (ordering_then b c) ≡ ordering_then (ordering_then a b) c
then-assoc Less b c = refl
then-assoc Equal b c = refl
then-assoc Greater b c = refl

then-decided : (a b : Ordering) → a ≢ Equal → ordering_then a b ≡ a
then-decided Less b apart = refl
then-decided Equal b apart = absurd (apart refl)
then-decided Greater b apart = refl

-- the first parts decide, and else the parts behind them
pub cmp-append : (xs ys a b : List ℕ) → length xs ≡ length ys → slice_cmp nat_cmp (xs ++ a) (ys ++ b) ≡ ordering_then (slice_cmp nat_cmp xs ys) (slice_cmp nat_cmp a b)
cmp-append [] [] a b long = refl
cmp-append [] (y ∷ ys) a b long = absurd (omega arith)
cmp-append (x ∷ xs) [] a b long = absurd (omega arith)
cmp-append (x ∷ xs) (y ∷ ys) a b long = ap (ordering_then (nat_cmp x y)) (cmp-append xs ys a b (omega arith)) ∙ then-assoc (nat_cmp x y) (slice_cmp nat_cmp xs ys) (slice_cmp nat_cmp a b)

pub cmp-itself : (xs ys : List ℕ) → xs ≡ ys → slice_cmp nat_cmp xs ys ≡ Equal
cmp-itself xs ys same = ap (slice_cmp nat_cmp xs) (sym same) ∙ tied_itself nat_list_cmp_total xs

-- rows of one length that are compared one after another
module _ {X : Type 0} (d : X) (h k : X → List ℕ) (n : ℕ) (long_h : (x : X) → length (h x) ≡ n) (long_k : (x : X) → length (k x) ≡ n) where
  rows-long : (x y : X) → length (h x) ≡ length (k y)
  rows-long x y = long_h x ∙ sym (long_k y)

  rows-even : (xs ys : List X) → length xs ≡ length ys → ((i : ℕ) → i < length xs → h (get_or xs i d) ≡ k (get_or ys i d)) → slice_cmp nat_cmp (flat_map h xs) (flat_map k ys) ≡ Equal
  rows-even [] [] long same = refl
  rows-even [] (y ∷ ys) long same = absurd (omega arith)
  rows-even (x ∷ xs) [] long same = absurd (omega arith)
  rows-even (x ∷ xs) (y ∷ ys) long same =
      cmp-append (h x) (k y) (flat_map h xs) (flat_map k ys) (rows-long x y)
      ∙ ap (λ (o : Ordering). ordering_then o (slice_cmp nat_cmp (flat_map h xs) (flat_map k ys))) (cmp-itself (h x) (k y) (same 0 (omega arith)))
      ∙ rows-even xs ys (omega arith) (λ i in_i. same (suc i) (omega arith))

  rows-apart : (xs ys : List X) (i : ℕ) (o : Ordering) → length xs ≡ length ys → i < length xs → ((j : ℕ) → j < i → h (get_or xs j d) ≡ k (get_or ys j d)) → slice_cmp nat_cmp (h (get_or xs i d)) (k (get_or ys i d)) ≡ o → o ≢ Equal →
      slice_cmp nat_cmp (flat_map h xs) (flat_map k ys) ≡ o
  rows-apart [] ys i o long in_i same at apart = absurd (omega arith)
  rows-apart (x ∷ xs) [] i o long in_i same at apart = absurd (omega arith)
  rows-apart (x ∷ xs) (y ∷ ys) zero o long in_i same at apart =
      cmp-append (h x) (k y) (flat_map h xs) (flat_map k ys) (rows-long x y)
      ∙ then-decided (slice_cmp nat_cmp (h x) (k y)) (slice_cmp nat_cmp (flat_map h xs) (flat_map k ys)) (λ e. apart (sym at ∙ e))
      ∙ at
  rows-apart (x ∷ xs) (y ∷ ys) (suc i) o long in_i same at apart =
      cmp-append (h x) (k y) (flat_map h xs) (flat_map k ys) (rows-long x y)
      ∙ ap (λ (o : Ordering). ordering_then o (slice_cmp nat_cmp (flat_map h xs) (flat_map k ys))) (cmp-itself (h x) (k y) (same 0 (omega arith)))
      ∙ rows-apart xs ys i o (omega arith) (omega arith) (λ j in_j. same (suc j) (omega arith)) at apart

  -- a verdict on all rows is how their numbers compare
  pub verdict-all : (xs ys : List X) (o : Ordering) → length xs ≡ length ys → IsVerdict (λ i. h (get_or xs i d)) (λ i. k (get_or ys i d)) (length xs) o → o ≡ slice_cmp nat_cmp (flat_map h xs) (flat_map k ys)
  verdict-all xs ys Equal long verdict = sym (rows-even xs ys long (verdict.same refl))
  verdict-all xs ys Less long verdict = let (i, in_i, same, at) = verdict.apart (λ e. cc e) in sym (rows-apart xs ys i Less long in_i same at (λ e. cc e))
  verdict-all xs ys Greater long verdict = let (i, in_i, same, at) = verdict.apart (λ e. cc e) in sym (rows-apart xs ys i Greater long in_i same at (λ e. cc e))

-- a verdict on the first rows that decides is one on more of them
pub verdict-more : (f g f' g' : ℕ → List ℕ) (n m : ℕ) (o : Ordering) → n ≤ m → o ≢ Equal → ((i : ℕ) → i < n → f i ≡ f' i) → ((i : ℕ) → i < n → g i ≡ g' i) → IsVerdict f g n o → IsVerdict f' g' m o
verdict-more f g f' g' n m o fits apart same_f same_g verdict = record {
  same = λ e. absurd (apart e);
  apart = λ apart'.
      let (i, in_i, same, at) = verdict.apart apart' in
      (i, omega arith, (λ j in_j. sym (same_f j (omega arith)) ∙ same j in_j ∙ same_g j (omega arith)), ap (λ (l : List ℕ). slice_cmp nat_cmp l (g' i)) (sym (same_f i in_i)) ∙ ap (slice_cmp nat_cmp (f i)) (sym (same_g i in_i)) ∙ at);
}

pub even-rows : (xs ys : List ℕ) → slice_cmp nat_cmp xs ys ≡ Equal → xs ≡ ys
even-rows xs ys e = exact_bytes xs ys e

pub not-greater : (o : Ordering) → o ≢ Greater → is_gt o ≡ false
not-greater Less h = refl
not-greater Equal h = refl
not-greater Greater h = absurd (h refl)

pub is-not-greater : (o : Ordering) → is_gt o ≡ false → o ≢ Greater
is-not-greater o h = λ same. let over = ap is_gt same in absurd (cc (over, h))

pub cmp-back : (xs ys : List ℕ) (o : Ordering) → o ≡ slice_cmp nat_cmp xs ys → slice_cmp nat_cmp ys xs ≡ ordering_reverse o
cmp-back xs ys o is = nat_list_cmp_total.antisymm ys xs ∙ ap ordering_reverse (sym is)

-- a list that is no greater than one that is less than a third is no greater than that
pub cmp-through : (xs ys zs : List ℕ) → slice_cmp nat_cmp xs ys ≢ Greater → slice_cmp nat_cmp ys zs ≢ Greater → slice_cmp nat_cmp xs zs ≢ Greater
cmp-through xs ys zs h k =
    is-not-greater (slice_cmp nat_cmp xs zs) (upto nat_list_cmp_total xs ys zs (not-greater (slice_cmp nat_cmp xs ys) h) (not-greater (slice_cmp nat_cmp ys zs) k))
