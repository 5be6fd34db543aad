-- One turn of the loops over arguments and bindings, and a binding whose form is right.
use Rattle.std.proofs.Common.{◌≡◌, ◌<◌, ◌≤◌, ◌+◌, ℕ, zero, suc, length, drop, get_or, All, arith, List, [], ◌∷◌, ◌++◌, map, refl, ap, sym, ◌∙◌, append_assoc, Some}
use Rattle.std.specs.Prelude.{Result, Ok, Err}
use Rattle.std.proofs.lemmas.List.Elements.{All-append}
use Rattle.std.specs.List.{AllByRecursion}
use Rattle.pt_terms.specs.Gives.{Grows}
use Rattle.pt_terms.specs.Sound.{IsBoundIn}
use Rattle.pt_terms.proofs.Ranges.{bound_more}
use Rattle.pt_terms.proofs.Steps.{drop-item}
use Rattle.pt_syntax.specs.declared.sexpr.SExpr.{SExpr}
use Rattle.pt_syntax.specs.declared.kinds.ReadRefusal.{ReadRefusal}
use Rattle.pt_terms.specs.declared.meaning.Meaning.{Meaning}
use Rattle.pt_terms.specs.declared.meaning.Bound.{Bound}
use Rattle.pt_terms.specs.declared.meaning.Bound.TheVariants.{Term as Standing}
use Rattle.pt_terms.specs.Elaboration.{Work, Elab, give, follow, ◌>>=◌, each}
use Rattle.pt_grammar.specs.Words.{Name}
use Rattle.pt_grammar.specs.Exprs.{items_of, place_of}
use Rattle.pt_terms.specs.Terms.{with_pair, bindable, binding, bindings}
use Rattle.pt_terms.specs.Layers.{pair}

-- what is found so far and the next are what is found
pub each-turn : {A B : Type 0} (f : A → Elab B) (x : A) (xs : List A) (found : List B) (y : B) (w w' : Work) → f x w ≡ Ok (y, w') → (each f (x ∷ xs) >>= λ more. give (found ++ more)) w ≡ (each f xs >>= λ more. give ((found ++ y ∷ []) ++ more)) w'
each-turn {A} {B} f x xs found y w w' e = ap (λ r. follow (follow r (λ z. each f xs >>= λ zs. give (z ∷ zs))) (λ more. give (found ++ more))) e ∙ by-rest (each f xs w')
  where
    by-rest : (r : Result (List B × Work) ReadRefusal) → follow (follow r (λ zs. give (y ∷ zs))) (λ more. give (found ++ more)) ≡ follow r (λ more. give ((found ++ y ∷ []) ++ more))
    by-rest (Ok (zs, v)) = ap (λ (all : List B). Ok (all, v)) (sym (append_assoc found (y ∷ []) zs))
    by-rest (Err refusal) = refl

-- the next binding in front of those that are found
pub binding-turn : (term : SExpr → Elab Meaning) (found : List (Name × Bound)) (e : SExpr) (es : List SExpr) (b : Name × Bound) (w w' : Work) → binding term (map (λ b. b.0) found) e w ≡ Ok (b, w') → bindings term found (e ∷ es) w ≡ bindings term (b ∷ found) es w'
binding-turn term found e es b w w' h = ap (λ r. follow r (λ b. bindings term (b ∷ found) es)) h

-- a refusal of the next is the refusal of all
pub each-fails : {A B : Type 0} (f : A → Elab B) (x : A) (xs : List A) (found : List B) (w : Work) (e : ReadRefusal) → f x w ≡ Err e → (each f (x ∷ xs) >>= λ more. give (found ++ more)) w ≡ Err e
each-fails f x xs found w e h = ap (λ r. follow (follow r (λ z. each f xs >>= λ zs. give (z ∷ zs))) (λ more. give (found ++ more))) h

pub pair-binding : (term : SExpr → Elab Meaning) (taken : List Name) (e s t : SExpr) → items_of e ≡ Some (s ∷ t ∷ []) → binding term taken e ≡ pair term taken s t
pair-binding term taken e s t h = ap (λ o. with_pair o (place_of e) (λ s t. bindable taken s >>= λ name. term t >>= λ m. give (name, Standing m))) h

-- a list of two items
pub exact-two : {X : Type 0} (items : List X) (a b : X) → 2 ≤ length items → length items < 3 → a ≡ get_or items 0 a → b ≡ get_or items 1 b → items ≡ a ∷ b ∷ []
exact-two [] a b h k e f = absurd (omega arith)
exact-two (x ∷ []) a b h k e f = absurd (omega arith)
exact-two (x ∷ y ∷ []) a b h k e f = rw (e, f) refl
exact-two (x ∷ y ∷ z ∷ xs) a b h k e f = absurd (omega arith)

-- one more that has what all have
pub all-push : {X : Type 0} (P : X → Type 0) (xs : List X) (x : X) → All P xs → P x → All P (xs ++ x ∷ [])
all-push {X} P xs x h p = All-append P xs (x ∷ []) h (λ k d lt. only k d lt)
  where
    only : (k : ℕ) (d : X) → k < suc zero → P (get_or (x ∷ []) k d)
    only zero d lt = p
    only (suc k) d lt = absurd (omega arith)

-- the next binding
pub bindings-goes : (term : SExpr → Elab Meaning) (es : List SExpr) (k : ℕ) (e : SExpr) (found : List (Name × Bound)) (w v : Work) (all : Result (List (Name × Bound) × Work) ReadRefusal) → k < length es → e ≡ get_or es k e → bindings term found (drop k es) w ≡ all → (b : Name × Bound) → binding term (map (λ b. b.0) found) e w ≡ Ok (b, v) → bindings term (b ∷ found) (drop (k + 1) es) v ≡ all
bindings-goes term es k e found w v all lt is told b ok = sym (binding-turn term found e (drop (k + 1) es) b w v ok) ∙ ap (λ zs. bindings term found zs w) (sym (drop-item es k e lt is)) ∙ told

pub bindings-more : (v w : Work) (bs : List (Name × Bound)) → Grows v w → AllByRecursion (λ (b : Name × Bound). IsBoundIn v b.1) bs → AllByRecursion (λ (b : Name × Bound). IsBoundIn w b.1) bs
bindings-more v w [] g h = tt
bindings-more v w (b ∷ bs) g h = (bound_more v w b.1 g h.0, bindings-more v w bs g h.1)
