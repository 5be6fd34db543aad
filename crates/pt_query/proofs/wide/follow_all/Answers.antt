use Rattle.std.proofs.Common.{◌≡◌, ℕ, ◌+◌, ◌^◌, ◌<◌, length, ap, ◌∙◌, subst, arith}
use Rattle.pt_query.specs.Spreads.{HasSpread}
use Rattle.pt_query.proofs.SpreadSteps.{spread-row}
use Rattle.pt_query.proofs.wide.follow_all.Goals as goal

pub follow-requires-clause-spread : goal.follow-requires-clause-spread
follow-requires-clause-spread c = (c.requires.spread.0, c.loop-letter.invariant.spread c.requires.spread.0 c.requires.spread.1)

pub loop-letter-preserved : goal.loop-letter-preserved
loop-letter-preserved c =
    let before = c.loop-letter.invariant.grows in
    let after = c.in_ok-follow.ensures.grows in
    record {
      spread = λ row old. c.in_ok-follow.ensures.spread row (c.loop-letter.invariant.spread row old);
      grows = omega (arith, before, after);
      kept = λ j h. c.in_ok-follow.ensures.kept j (omega (arith, before, h)) ∙ c.loop-letter.invariant.kept j h;
    }

pub returns-clause-spread : goal.returns-clause-spread
returns-clause-spread c row old =
    let a = c.args.table.now in
    let w = c.loop-letter.spread in
    let width : c.letters-letter-end.result ≡ 2 ^ a.tracks = c.letters-letter-end.ensures.value ∙ ap (λ (n : ℕ). 2 ^ n) c.tracks.ensures.tracks in
    let end : c.loop-letter.letter ≡ 2 ^ a.tracks = omega (arith, width, c.loop-letter-test.false, c.loop-letter.auto.letter-end) in
    let grows = c.loop-letter.invariant.grows in
    let inside : c.args.place < length w.states.items = omega (arith, c.requires.place, grows) in
    spread-row a row a.states w.states.items w.depths.items w.places.items c.args.place inside
    (subst (λ (n : ℕ). HasSpread a row a.states w c.args.place n) end (c.loop-letter.invariant.spread row old))
