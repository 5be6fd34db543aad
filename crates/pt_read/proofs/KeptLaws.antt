-- What is kept of a scope, after its parts have changed.
use Rattle.std.proofs.Common.{◌≡◌, ◌⊎◌, inl, inr, false, List, [], ◌∷◌, ◌++◌, sym, ap, ◌∙◌, append_assoc, append-nil}
use Rattle.std.specs.Prelude.{Result, Ok, Err, OnOk, OnErr}
use Rattle.std.specs.Result.{is_err}
use Rattle.pt_terms.specs.Names.{Symbol, constant_in, constants_in}

pub on-ok : {A E : Type 0} (r : Result A E) (P : Type 0) → is_err r ≡ false → OnOk r P → P
on-ok (Ok x) P e h = h
on-ok (Err x) P e h = absurd cc

pub by-result : {A E : Type 0} (r : Result A E) (P R : Type 0) → OnOk r P → OnErr r R → P ⊎ R
by-result (Ok x) P R h k = inl h
by-result (Err x) P R h k = inr k

pub constants-append : (xs : List Symbol) (x : Symbol) → constants_in (xs ++ x ∷ []) ≡ constants_in xs ++ constant_in x x.stands_for
constants-append [] x = append-nil (constant_in x x.stands_for)
constants-append (y ∷ xs) x = ap (λ cs. constant_in y y.stands_for ++ cs) (constants-append xs x) ∙ sym (append_assoc (constant_in y y.stands_for) (constants_in xs) (constant_in x x.stands_for))
