-- Looking through the parameters that have arguments.
use Rattle.std.proofs.Common.{◌≡◌, ℕ, ◌+◌, ◌<◌, ◌≤◌, ◌==◌, Bool, true, false, if◌then◌else◌, List, [], ◌∷◌, ◌++◌, map, drop, get_or, length, refl, ap, sym, ◌∙◌, arith, add-one, drop-cons}
use Rattle.std.specs.Prelude.{Some, Result, Ok}
use Rattle.std.proofs.lemmas.Bool.Decides.{nat_tests}
use Rattle.std.proofs.lemmas.List.{append-nil, drop_all, map-append}
use Rattle.pt_terms.specs.declared.meaning.Meaning.{Meaning}
use Rattle.pt_syntax.specs.declared.kinds.ReadRefusal.{ReadRefusal}
use Rattle.pt_terms.specs.declared.meaning.Sort.{Sort}
use Rattle.pt_terms.specs.Elaboration.{Work, Elab, give, ◌>>=◌}
use Rattle.pt_terms.specs.Gives.{Fails}
use Rattle.pt_terms.specs.Theory.{Argument, replacement, replacements, of_sort}
use Rattle.pt_terms.proofs.Steps.{drop-item, turn_fails, turn_goes, more_found}

module _ {B : Type 0} (pair : B → ℕ × Meaning) (v : ℕ) (rs : List B) (k : ℕ) (r : B) (within : k < length rs) (is : r ≡ get_or rs k r) where
  here : replacement (map pair (drop k rs)) v ≡ (if (pair r).0 == v then Some (pair r).1 else replacement (map pair (drop (k + 1) rs)) v)
  here = rw (drop-item rs k r within is) refl

  pub found : ((pair r).0 == v) ≡ true → replacement (map pair (drop k rs)) v ≡ Some (pair r).1
  found e = here ∙ ap (λ b. if b then Some (pair r).1 else replacement (map pair (drop (k + 1) rs)) v) e

  pub further : ((pair r).0 == v) ≡ false → replacement (map pair (drop k rs)) v ≡ replacement (map pair (drop (k + 1) rs)) v
  further e = here ∙ ap (λ b. if b then Some (pair r).1 else replacement (map pair (drop (k + 1) rs)) v) e

-- unequal numbers
pub apart : (a b : ℕ) → (a ≡ b → ⊥) → (a == b) ≡ false
apart a b h = by-test (a == b) refl
  where
    by-test : (t : Bool) → (a == b) ≡ t → t ≡ false
    by-test false e = refl
    by-test true e = let same : a ≡ b = grind (arith, nat_tests) in absurd (h same)

-- a turn of the loop over parameters, sorts and arguments
module _ (vs : List ℕ) (ss : List Sort) (xs : List Argument) (k dv : ℕ) (ds : Sort) (x : Argument) (found : List (ℕ × Meaning)) (w : Work) (all : Result (List (ℕ × Meaning) × Work) ReadRefusal)
    (in-vs : k < length vs) (in-ss : k < length ss) (in-xs : k < length xs) (is-x : x ≡ get_or xs k x)
    (told : (replacements (drop k vs) (drop k ss) (drop k xs) >>= λ rs. give (found ++ rs)) w ≡ all) where
  abbrev next : Meaning → Elab (List (ℕ × Meaning))
  next m = replacements (drop (k + 1) vs) (drop (k + 1) ss) (drop (k + 1) xs) >>= λ rs. give ((get_or vs k dv, m) ∷ rs)

  turn : ((of_sort (get_or ss k ds) x.0 x.1 >>= next) >>= λ rs. give (found ++ rs)) w ≡ all
  turn =
      let first : drop k vs ≡ get_or vs k dv ∷ drop (k + 1) vs = rw (add-one) (drop-cons vs k dv in-vs) in
      let second : drop k ss ≡ get_or ss k ds ∷ drop (k + 1) ss = rw (add-one) (drop-cons ss k ds in-ss) in
      sym (ap (λ us. (replacements us (drop k ss) (drop k xs) >>= λ rs. give (found ++ rs)) w) first
      ∙ ap (λ us. (replacements (get_or vs k dv ∷ drop (k + 1) vs) us (drop k xs) >>= λ rs. give (found ++ rs)) w) second
      ∙ ap (λ us. (replacements (get_or vs k dv ∷ drop (k + 1) vs) (get_or ss k ds ∷ drop (k + 1) ss) us >>= λ rs. give (found ++ rs)) w) (drop-item xs k x in-xs is-x))
      ∙ told

  pub replacing_fails : (e : ReadRefusal) → Fails e (of_sort (get_or ss k ds) x.0 x.1 w) → Fails e all
  replacing_fails e h = turn_fails (of_sort (get_or ss k ds) x.0 x.1) next (λ rs. give (found ++ rs)) w all turn e h

  pub replacing_goes : of_sort (get_or ss k ds) x.0 x.1 w ≡ Ok (x.1, w) → (replacements (drop (k + 1) vs) (drop (k + 1) ss) (drop (k + 1) xs) >>= λ rs. give ((found ++ (get_or vs k dv, x.1) ∷ []) ++ rs)) w ≡ all
  replacing_goes ok = sym (more_found found (get_or vs k dv, x.1) (replacements (drop (k + 1) vs) (drop (k + 1) ss) (drop (k + 1) xs) w)) ∙ turn_goes (of_sort (get_or ss k ds) x.0 x.1) next (λ rs. give (found ++ rs)) w all turn x.1 w ok

-- one more replacement behind those that are found
pub more-mapped : {B : Type 0} (f : B → ℕ × Meaning) (xs ys : List B) (x : B) → ys ≡ xs ++ x ∷ [] → map f ys ≡ map f xs ++ f x ∷ []
more-mapped f xs ys x e = ap (map f) e ∙ map-append f xs (x ∷ [])

-- no parameter is left
pub replacing_ends : (vs : List ℕ) (ss : List Sort) (xs : List Argument) (k : ℕ) (found : List (ℕ × Meaning)) (w : Work) (all : Result (List (ℕ × Meaning) × Work) ReadRefusal)
    → length vs ≤ k → (replacements (drop k vs) (drop k ss) (drop k xs) >>= λ rs. give (found ++ rs)) w ≡ all → all ≡ Ok (found, w)
replacing_ends vs ss xs k found w all end told =
    sym told ∙ ap (λ us. (replacements us (drop k ss) (drop k xs) >>= λ rs. give (found ++ rs)) w) (drop_all k vs end) ∙ ap (λ (rs : List (ℕ × Meaning)). Ok (rs, w)) (append-nil found)
