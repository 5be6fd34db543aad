use Rattle.std.proofs.Common.{◌≡◌, ◌<◌, ◌+◌, ℕ, suc, ◌-◌, nat_le, length, filter, take, ap, sym, ◌∙◌, arith}
use Rattle.pt_terms.specs.Symbols.{shown, shown_use, constant_count}
use Rattle.pt_terms.specs.Names.{Symbol, constants_in}
use Rattle.pt_terms.proofs.SymbolLemmas.{kept-step, kept-front, seen, get-map}
use Rattle.pt_terms.proofs.ConstantLemmas.{constants-step, constants-front}
use Rattle.pt_terms.proofs.symbols.Symbols.constants_up_to.Goals as goal

last : (n : ℕ) → 0 < n → suc (n - 1) ≡ n
last n h = omega arith

counted : (c : goal.After-constants-left) → length (constants_in (take c.loop-kept.kept (shown c.self.inside))) ≡ length (constants_in (take (c.loop-kept.kept - 1) (shown c.self.inside))) + constant_count (shown_use c.in-Some.live.now.stands_for)
counted c =
    let at = get-map (seen (λ k. k.items) (λ l. shown_use l.stands_for) (λ l. l.level)) c.self.inside.entries.entries (c.loop-kept.kept - 1) _ (sym c.in-Some.ensures.entry) in
    let step = constants-step (shown c.self.inside) (c.loop-kept.kept - 1) _ at in
    rw (last c.loop-kept.kept c.loop-kept-test.true) at step

pub overflow_sub-left : goal.overflow_sub-left
overflow_sub-left c = omega (arith, counted c, c.loop-kept.invariant.count, c.constants-left.ensures)

pub loop-kept-preserved : goal.loop-kept-preserved
loop-kept-preserved c =
    let at = get-map (seen (λ k. k.items) (λ l. shown_use l.stands_for) (λ l. l.level)) c.self.inside.entries.entries (c.loop-kept.kept - 1) _ (sym c.in-Some.ensures.entry) in
    let step = kept-step (shown c.self.inside) (c.loop-kept.kept - 1) c.args.level _ at c.if-live-level.true in
    let step' = rw (last c.loop-kept.kept c.loop-kept-test.true) at step in
    record { front = c.loop-kept.invariant.front ∙ step'; within = omega arith; count = omega (arith, counted c, c.loop-kept.invariant.count, c.constants-left.ensures) }

-- the constants of the names that stay are a front of all
front : (c : goal.Else-live-level) → filter (λ (s : Symbol). nat_le s.level c.args.level) (shown c.self.inside) ≡ take c.loop-kept.kept (shown c.self.inside)
front c =
    let at = get-map (seen (λ k. k.items) (λ l. shown_use l.stands_for) (λ l. l.level)) c.self.inside.entries.entries (c.loop-kept.kept - 1) _ (sym c.in-Some.ensures.entry) in
    let kept = kept-front (shown c.self.inside) (c.loop-kept.kept - 1) c.args.level _ c.self.invariant at c.if-live-level.false in
    let kept' = rw (last c.loop-kept.kept c.loop-kept-test.true) at kept in
    c.loop-kept.invariant.front ∙ kept'

pub returns-in_default : goal.returns-in_default
returns-in_default c =
    rw (← c.self.view_is)
    (record { front = ap constants_in (front c) ∙ constants-front c.loop-kept.kept (shown c.self.inside) ∙ ap (λ n. take n (constants_in (shown c.self.inside))) (sym c.loop-kept.invariant.count) })
