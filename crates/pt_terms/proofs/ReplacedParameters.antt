-- Parameters with their arguments: all are in range, and have their parameters' sorts.
use Rattle.std.proofs.Common.{◌≡◌, ℕ, zero, suc, Bool, true, false, List, [], ◌∷◌, All, arith, refl, ap, sym, subst}
use Rattle.std.specs.Prelude.{Result, Ok, Err}
use Rattle.pt_syntax.specs.declared.kinds.ReadKind.TheVariants.{Sort as WrongSort}
use Rattle.pt_syntax.specs.declared.kinds.ReadRefusal.{ReadRefusal}
use Rattle.pt_terms.specs.declared.meaning.Meaning.{Meaning}
use Rattle.pt_terms.specs.declared.meaning.Sort.{Sort}
use Rattle.pt_terms.specs.Elaboration.{Work, give, follow, ◌>>=◌, require}
use Rattle.pt_terms.specs.Theory.{Argument, replacements}
use Rattle.pt_terms.specs.Sorts.{HasSort, HaveSorts, same_sort, sort_of}
use Rattle.pt_terms.specs.Sound.{IsMeaningIn, AreReplacing}
use Rattle.pt_terms.proofs.KeepCopies.{same-sorts}

none-in : (w w' : Work) (rs : List (ℕ × Meaning)) → ◌≡◌ {A = Result (List (ℕ × Meaning) × Work) ReadRefusal} (Ok ([], w)) (Ok (rs, w')) → AreReplacing w rs
none-in w w' rs e =
    let pair : ◌≡◌ {A = List (ℕ × Meaning) × Work} ([], w) (rs, w') = cc in
    subst (AreReplacing w) (ap (λ (q : List (ℕ × Meaning) × Work). q.0) pair) tt

pub replacements-in : (vs : List ℕ) (ss : List Sort) (xs : List Argument) (w w' : Work) (rs : List (ℕ × Meaning)) → HaveSorts w.given vs ss → All (λ (a : Argument). IsMeaningIn w a.1) xs → replacements vs ss xs w ≡ Ok (rs, w') → AreReplacing w rs
replacements-in [] ss xs w w' rs h all e = none-in w w' rs e
replacements-in (v ∷ vs) [] xs w w' rs h all e = none-in w w' rs e
replacements-in (v ∷ vs) (s ∷ ss) [] w w' rs h all e = none-in w w' rs e
replacements-in (v ∷ vs) (s ∷ ss) (x ∷ xs) w w' rs h all e = by-test (λ us u k. replacements-in vs ss xs w u us h.1 (λ i d lt. all (suc i) d (omega arith)) k) (same_sort s (sort_of x.1)) refl e
  where
    second : sort_of x.1 ≡ s → (r : Result (List (ℕ × Meaning) × Work) ReadRefusal) → ((us : List (ℕ × Meaning)) (u : Work) → r ≡ Ok (us, u) → AreReplacing w us) → follow r (λ us. give ((v, x.1) ∷ us)) ≡ Ok (rs, w') → AreReplacing w rs
    second same (Err refusal) go k = absurd cc
    second same (Ok (us, u)) go k =
        let pair : ◌≡◌ {A = List (ℕ × Meaning) × Work} ((v, x.1) ∷ us, u) (rs, w') = cc in
        subst (AreReplacing w) (ap (λ (q : List (ℕ × Meaning) × Work). q.0) pair) ((all zero x (omega arith), subst (HasSort w.given v) (sym same) h.0), go us u refl)

    by-test : ((us : List (ℕ × Meaning)) (u : Work) → replacements vs ss xs w ≡ Ok (us, u) → AreReplacing w us) → (b : Bool) → same_sort s (sort_of x.1) ≡ b → ((require b WrongSort x.0 >>= λ _. give x.1) >>= λ m. replacements vs ss xs >>= λ us. give ((v, m) ∷ us)) w ≡ Ok (rs, w') → AreReplacing w rs
    by-test go true t k = second (same-sorts s (sort_of x.1) t) (replacements vs ss xs w) go k
    by-test go false t k = absurd cc
