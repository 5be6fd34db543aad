use Rattle.std.proofs.Common.{◌≡◌, ◌<◌, ℕ, suc, ◌-◌, sym, ◌∙◌, arith}
use Rattle.pt_terms.specs.Symbols.{shown, shown_use}
use Rattle.pt_terms.proofs.SymbolLemmas.{kept-step, kept-front, seen, get-map}
use Rattle.pt_terms.proofs.symbols.Symbols.count_up_to.Goals as goal

last : (n : ℕ) → 0 < n → suc (n - 1) ≡ n
last n h = omega arith

pub loop-kept-preserved : goal.loop-kept-preserved
loop-kept-preserved c =
    let at = get-map (seen (λ k. k.items) (λ l. shown_use l.stands_for) (λ l. l.level)) c.self.inside.entries.entries (c.loop-kept.kept - 1) _ (sym c.in-Some.ensures.entry) in
    let step = kept-step (shown c.self.inside) (c.loop-kept.kept - 1) c.args.level _ at c.if-live-level.true in
    let step' = rw (last c.loop-kept.kept c.loop-kept-test.true) at step in
    record { front = c.loop-kept.invariant.front ∙ step'; within = omega arith }

pub returns-in_default : goal.returns-in_default
returns-in_default c =
    let at = get-map (seen (λ k. k.items) (λ l. shown_use l.stands_for) (λ l. l.level)) c.self.inside.entries.entries (c.loop-kept.kept - 1) _ (sym c.in-Some.ensures.entry) in
    let front = kept-front (shown c.self.inside) (c.loop-kept.kept - 1) c.args.level _ c.self.invariant at c.if-live-level.false in
    let front' = rw (last c.loop-kept.kept c.loop-kept-test.true) at front in
    rw (← c.self.view_is) (c.loop-kept.invariant.front ∙ front')
