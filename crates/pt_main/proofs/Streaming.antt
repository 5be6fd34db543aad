-- What several writes appended.
use Rattle.std.proofs.Common.{ℕ, List, [], ◌++◌, refl, ap, sym, ◌∙◌, subst, append_assoc}
use Rattle.std.specs.Prelude.{Option, Some, None}
use Rattle.std.proofs.lemmas.List.{append-nil}
use Rattle.pt_io.specs.Streams.{Wrote}

pub wrote-nothing : (a : Option (List ℕ)) → Wrote a a []
wrote-nothing None = tt
wrote-nothing (Some all) = (all, refl, sym (append-nil all))

-- what two calls appended is what they appended together
pub wrote-then : (a b c : Option (List ℕ)) (x y : List ℕ) → Wrote a b x → Wrote b c y → Wrote a c (x ++ y)
wrote-then a b None x y first second = tt
wrote-then a b (Some all) x y first second =
    let before = subst (λ (o : Option (List ℕ)). Wrote a o x) second.1 first in
    (before.0, before.1, second.2 ∙ ap (λ (l : List ℕ). l ++ y) before.2 ∙ append_assoc before.0 x y)

pub wrote-same : (a b c : Option (List ℕ)) (x : List ℕ) → Wrote a b x → Wrote b c [] → Wrote a c x
wrote-same a b c x first second = subst (Wrote a c) (append-nil x) (wrote-then a b c x [] first second)
