-- Lists of forms that are reached, different and closed, and what they say of the number of residuals.
use Rattle.std.proofs.Common.{ℕ, zero, suc, ◌+◌, ◌^◌, ◌<◌, ◌≡◌, inl, inr, List, [], ◌∷◌, ◌++◌, length, map, ap, sym, ◌∙◌, refl, subst, arith}
use Rattle.std.specs.Prelude.{slice_get, Some}
use Rattle.std.specs.List.{AllByRecursion}
use Rattle.std.proofs.lemmas.List.{length-map}
use Rattle.pt_base.specs.Elements.{AnyByRecursion, ContainsByRecursion, PairsByRecursion}
use Rattle.pt_sets.specs.Words.{AreLetters}
use Rattle.pt_atoms.proofs.Forms.{same_form, same_residual, form_after_is}
use Rattle.pt_atoms.proofs.FormCosts.{cost_above_by, cost_is_by}
use Rattle.pt_atoms.specs.Atoms.{IsNormal, SameForm, residual_form, form_after}
use Rattle.pt_atoms.specs.Tables.{AreReached, IsClosed, ResidualsAbove, ResidualsAre}
use Rattle.pt_atoms.specs.Searches.{HasNot}
use Rattle.pt_atoms.specs.declared.Normal.{Normal}

-- a form of the list leads to forms of the list
pub stays_among : (t : ℕ) (forms : List Normal) → IsClosed t forms → (m : Normal) (w : List ℕ) → ContainsByRecursion m forms → AreLetters t w → ContainsByRecursion (form_after m w) forms
stays_among t forms closed m [] h l = h
stays_among t forms closed m (a ∷ w) h l = stays_among t forms closed (residual_form m a) w (closed m a h l.0) l.1

member_of_map : (n : Normal) (w : List ℕ) (ws : List (List ℕ)) → ContainsByRecursion (form_after n w) (map (form_after n) ws) → AnyByRecursion (SameForm n w) ws
member_of_map n w [] h = h
member_of_map n w (v ∷ ws) (inl h) = inl h
member_of_map n w (v ∷ ws) (inr h) = inr (member_of_map n w ws h)

all_of_map : {X Y : Type 0} (P : Y → Type 0) (f : X → Y) (xs : List X) → AllByRecursion P (map f xs) → AllByRecursion (λ x. P (f x)) xs
all_of_map P f [] h = tt
all_of_map P f (x ∷ xs) h = (h.0, all_of_map P f xs h.1)

pairs_of_map : {X Y : Type 0} (R : Y → Y → Type 0) (f : X → Y) (xs : List X) → PairsByRecursion R (map f xs) → PairsByRecursion (λ x y. R (f x) (f y)) xs
pairs_of_map R f [] h = h
pairs_of_map R f (x ∷ xs) h = (all_of_map (R (f x)) f xs h.0, pairs_of_map R f xs h.1)

different_words : (n : Normal) (forms : List Normal) → (r : AreReached n forms) → PairsByRecursion (λ v w. ¬ SameForm n v w) r.words
different_words n forms r = pairs_of_map (λ x y. ¬ (x ≡ y)) (form_after n) r.words (subst (λ (fs : List Normal). PairsByRecursion (λ x y. ¬ (x ≡ y)) fs) r.reached r.different)

count_words : (n : Normal) (forms : List Normal) → (r : AreReached n forms) → length r.words ≡ length forms
count_words n forms r = sym (length-map r.words (form_after n)) ∙ ap length (sym r.reached)

-- more than B forms that are reached and different: more than B residuals
pub search_above : (n : Normal) (forms : List Normal) (B : ℕ) → IsNormal n → AreReached n forms → length forms ≡ B + 1 → ResidualsAbove n B
search_above n forms B h r e =
    cost_above_by (SameForm n) _ (length n.coefficients) B (λ v w. same_form n v w h)
    (record { lists = r.words; count = count_words n forms r ∙ e; letters = r.letters; different = different_words n forms r })

-- forms that are reached, with the form itself and all residuals among them: as many residuals
pub search_is : (n : Normal) (forms : List Normal) → IsNormal n → AreReached n forms → ContainsByRecursion n forms → IsClosed (length n.coefficients) forms → ResidualsAre n (length forms)
search_is n forms h r start closed =
    cost_is_by (SameForm n) _ (length n.coefficients) (length forms) (λ v w. same_residual n v w h) (λ v w. same_form n v w h)
    (record {
      lists = r.words;
      count = count_words n forms r;
      letters = r.letters;
      different = different_words n forms r;
      all = λ w l. member_of_map n w r.words (subst (λ (fs : List Normal). ContainsByRecursion (form_after n w) fs) r.reached (stays_among (length n.coefficients) forms closed n w start l));
    })

-- ---- one more form
form_after-push : (n : Normal) (w : List ℕ) (a : ℕ) → form_after n (w ++ a ∷ []) ≡ residual_form (form_after n w) a
form_after-push n [] a = refl
form_after-push n (b ∷ w) a = form_after-push (residual_form n b) w a

all_push : {X : Type 0} (P : X → Type 0) (xs : List X) (y : X) → AllByRecursion P xs → P y → AllByRecursion P (xs ++ y ∷ [])
all_push P [] y h p = (p, tt)
all_push P (x ∷ xs) y h p = (h.0, all_push P xs y h.1 p)

pairs_push : {X : Type 0} (R : X → X → Type 0) (xs : List X) (y : X) → PairsByRecursion R xs → AllByRecursion (λ x. R x y) xs → PairsByRecursion R (xs ++ y ∷ [])
pairs_push R [] y h p = (tt, tt)
pairs_push R (x ∷ xs) y h p = (all_push (R x) xs y h.0 p.0, pairs_push R xs y h.1 p.1)

map_push : {X Y : Type 0} (f : X → Y) (xs : List X) (y : X) → map f (xs ++ y ∷ []) ≡ map f xs ++ f y ∷ []
map_push f [] y = refl
map_push f (x ∷ xs) y = ap (λ ys. f x ∷ ys) (map_push f xs y)

pub reached_push : (n m : Normal) (forms : List Normal) (w : List ℕ) → AreReached n forms → AreLetters (length n.coefficients) w → m ≡ form_after n w → HasNot m forms → AreReached n (forms ++ m ∷ [])
reached_push n m forms w r l e h = record {
  words = r.words ++ w ∷ [];
  reached = ap (λ x. forms ++ x ∷ []) e ∙ ap (λ fs. fs ++ form_after n w ∷ []) r.reached ∙ sym (map_push (form_after n) r.words w);
  letters = all_push (AreLetters (length n.coefficients)) r.words w r.letters l;
  different = pairs_push (λ x y. ¬ (x ≡ y)) forms m r.different h;
}

-- a form that some list of letters leads to
pub record IsReachedForm (n m : Normal) : Type 0 where
  pub word : List ℕ
  pub letters : AreLetters (length n.coefficients) word
  pub form : m ≡ form_after n word

at_word : (n m : Normal) (ws : List (List ℕ)) (q : ℕ) → AllByRecursion (AreLetters (length n.coefficients)) ws → slice_get (map (form_after n) ws) q ≡ Some m → IsReachedForm n m
at_word n m [] q l e = absurd (grind (arith, e))
at_word n m (w ∷ ws) zero l e = record { word = w; letters = l.0; form = cc }
at_word n m (w ∷ ws) (suc q) l e = at_word n m ws q l.1 e

pub reached_at : (n m : Normal) (forms : List Normal) (q : ℕ) → AreReached n forms → slice_get forms q ≡ Some m → IsReachedForm n m
reached_at n m forms q r e = at_word n m r.words q r.letters (subst (λ (fs : List Normal). slice_get fs q ≡ Some m) r.reached e)

-- and so is its residual
pub reached_next : (n m : Normal) (a : ℕ) → IsReachedForm n m → a < 2 ^ length n.coefficients → IsReachedForm n (residual_form m a)
reached_next n m a r l = record {
  word = r.word ++ a ∷ [];
  letters = all_push (λ d. d < 2 ^ length n.coefficients) r.word a r.letters l;
  form = ap (λ x. residual_form x a) r.form ∙ sym (form_after-push n r.word a);
}

pub reached_normal : (n m : Normal) → IsNormal n → IsReachedForm n m → IsNormal m
reached_normal n m h r = subst (λ (x : Normal). IsNormal x) (sym r.form) (form_after_is n r.word h).normal

pub reached_tracks : (n m : Normal) → IsNormal n → IsReachedForm n m → length m.coefficients ≡ length n.coefficients
reached_tracks n m h r = ap (λ x. length x.coefficients) r.form ∙ (form_after_is n r.word h).size

-- ---- places
pub member_at : (m : Normal) (forms : List Normal) (q : ℕ) → slice_get forms q ≡ Some m → ContainsByRecursion m forms
member_at m [] q e = absurd (grind (arith, e))
member_at m (x ∷ forms) zero e = inl (some_back x m e)
  where
    some_back : (x m : Normal) → Some x ≡ Some m → m ≡ x
    some_back x m e = cc
member_at m (x ∷ forms) (suc q) e = inr (member_at m forms q e)

pub place_in : (m : Normal) (forms : List Normal) → ContainsByRecursion m forms → (q : ℕ) × (q < length forms) × (slice_get forms q ≡ Some m)
place_in m [] h = absurd h
place_in m (x ∷ forms) (inl e) = (0, omega arith, ap Some (sym e))
place_in m (x ∷ forms) (inr h) = let p = place_in m forms h in (suc p.0, let k = p.1 in omega (arith, k), p.2)

pub reached_start : (n : Normal) → AreReached n (n ∷ [])
reached_start n = record { words = [] ∷ []; reached = refl; letters = (tt, tt); different = (tt, tt) }
