use Rattle.std.proofs.Common.{◌∷◌, reverse, ap, ◌∙◌}
use Rattle.pt_terms.proofs.BoundNames.{appended_one}
use Rattle.pt_terms.proofs.bindings.Bindings.append.Goals as goal

pub loop-place-preserved : goal.loop-place-preserved
loop-place-preserved c =
    appended_one (reverse c.args.inner.now) c.args.self.now c.loop-place.self c.push.new.self c.loop-place.place (c.entry.result.0.now, c.entry.result.1.now) c.entry.ensures c.loop-place.invariant
    (c.in_ok-push.ensures ∙ ap (λ m. (c.entry.result.0.now, m) ∷ c.loop-place.self) c.in_ok-copy.ensures)
