-- One turn of the loop over the variables of a quantifier.
use Rattle.std.proofs.Common.{◌≡◌, ◌<◌, ◌+◌, ℕ, length, drop, get_or, All, List, [], ◌∷◌, ◌++◌, map, reverse, ap, sym, subst, ◌∙◌}
use Rattle.std.specs.Prelude.{Result, Ok}
use Rattle.std.proofs.lemmas.List.{reverse-append, map-append}
use Rattle.pt_syntax.specs.declared.sexpr.SExpr.{SExpr}
use Rattle.pt_syntax.specs.declared.kinds.ReadRefusal.{ReadRefusal}
use Rattle.pt_grammar.specs.Words.{Name}
use Rattle.pt_terms.specs.declared.meaning.Sort.{Sort as VariableSort}
use Rattle.pt_terms.specs.Elaboration.{Work}
use Rattle.pt_terms.specs.Gives.{Grows}
use Rattle.pt_terms.specs.Sorts.{HasSort}
use Rattle.pt_terms.specs.Terms.{variable, variables}
use Rattle.pt_terms.proofs.Ranges.{variables_more}
use Rattle.pt_terms.proofs.Steps.{drop-item, given_then}
use Rattle.pt_terms.proofs.TermSteps.{all-push}

-- the next variable
variables-goes : (es : List SExpr) (k : ℕ) (e : SExpr) (found : List (Name × ℕ × VariableSort)) (w v : Work) (all : Result (List (Name × ℕ × VariableSort) × Work) ReadRefusal) → k < length es → e ≡ get_or es k e → variables found (drop k es) w ≡ all → (x : Name × ℕ × VariableSort) → variable [] e w ≡ Ok (x, v) → variables (x ∷ found) (drop (k + 1) es) v ≡ all
variables-goes es k e found w v all lt is told x ok = sym (given_then (variable [] e) (λ x. variables (x ∷ found) (drop (k + 1) es)) w v x ok) ∙ ap (λ zs. variables found zs w) (sym (drop-item es k e lt is)) ∙ told

module _ {B : Type 0} (xs ys : List B) (x : B) (pushed : ys ≡ xs ++ x ∷ []) where
  pub variables-push : (f : B → Name × ℕ × VariableSort) (es : List SExpr) (k : ℕ) (e : SExpr) (w v : Work) (all : Result (List (Name × ℕ × VariableSort) × Work) ReadRefusal) → k < length es → e ≡ get_or es k e → variables (reverse (map f xs)) (drop k es) w ≡ all → variable [] e w ≡ Ok (f x, v) → variables (reverse (map f ys)) (drop (k + 1) es) v ≡ all
  variables-push f es k e w v all lt is told ok = ap (λ zs. variables zs (drop (k + 1) es) v) back ∙ variables-goes es k e (reverse (map f xs)) w v all lt is told (f x) ok
    where
      back : reverse (map f ys) ≡ f x ∷ reverse (map f xs)
      back = ap (λ zs. reverse (map f zs)) pushed ∙ ap reverse (map-append f xs (x ∷ [])) ∙ reverse-append (map f xs) (f x ∷ [])

  pub sorts-push : (v w : Work) (number : B → ℕ) (kind : B → VariableSort) → Grows v w → All (λ y. HasSort v.given (number y) (kind y)) xs → HasSort w.given (number x) (kind x) → All (λ y. HasSort w.given (number y) (kind y)) ys
  sorts-push v w number kind g h k = subst (All (λ y. HasSort w.given (number y) (kind y))) (sym pushed) (all-push (λ y. HasSort w.given (number y) (kind y)) xs x (variables_more v w number kind xs g h) k)
