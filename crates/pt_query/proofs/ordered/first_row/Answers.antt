use Rattle.std.proofs.Common.{◌≡◌, ℕ, ◌+◌, ◌^◌, ◌<◌, true, Option, Some, None, refl, sym, ◌∙◌, subst}
use Rattle.std.specs.Prelude.{IfNone, IsTrue}
use Rattle.std.specs.Option.{is_some}
use Rattle.pt_sets.specs.Automata.{output_of}
use Rattle.pt_query.proofs.FreshWords.{IsRowTo, row-push, one-accepted}
use Rattle.pt_query.proofs.ordered.first_row.Goals as goal

-- an option is none only where there is nothing
some-where : (P : ℕ → Type 0) (x : Option ℕ) → IfNone x ((r : ℕ) → P r → ⊥) → (r : ℕ) → P r → is_some x ≡ true
some-where P None none r p = absurd (none r p)
some-where P (Some s) none r p = refl

none-of : (n : ℕ) (Q : ℕ → Type 0) (x : Option ℕ) → IfNone x ((r : ℕ) → r < n → ¬ Q r) → IfNone x ((r : ℕ) → (r < n) × Q r → ⊥)
none-of n Q None none = λ r p. none r p.0 p.1
none-of n Q (Some s) none = tt

pub loop-state-preserved : goal.loop-state-preserved
loop-state-preserved c =
    let a = c.args.table.now in
    let q = c.loop-state.state in
    let Q : ℕ → Type 0 = λ r. IsTrue (output_of a q r) in
    subst (IsRowTo a 1 (q + 1)) (sym c.in_ok-push.ensures.items)
    (row-push a 1 q c.loop-state.row.items c.is_some.result c.loop-state.invariant
    (λ w accepted len.
    let (s, is_s, shown) = one-accepted a q w accepted len in
    c.is_some.ensures ∙ some-where (λ r. (r < 2 ^ a.tracks) × Q r) c.first_sign.result (none-of (2 ^ a.tracks) Q c.first_sign.result c.first_sign.ensures.none) s (is_s, shown)))
