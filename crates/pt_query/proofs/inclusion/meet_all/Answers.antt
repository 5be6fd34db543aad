use Rattle.std.proofs.Common.{◌≡◌, ℕ, ◌^◌, ◌≤◌, ap, ◌∙◌, arith}
use Rattle.pt_query.proofs.PairSteps.{pairs-row}
use Rattle.pt_query.proofs.inclusion.meet_all.Goals as goal

pub returns-clause-pairs : goal.returns-clause-pairs
returns-clause-pairs g c =
    let width : c.letters-letter-end.result ≡ 2 ^ c.args.first.now.tracks = c.letters-letter-end.ensures.value ∙ ap (λ (n : ℕ). 2 ^ n) c.tracks.ensures.tracks in
    let over = c.loop-letter-test.false in
    let past : 2 ^ c.args.first.now.tracks ≤ c.loop-letter.letter = omega (arith, width, over) in
    pairs-row c.args.first.now c.args.second.now g.start c.loop-letter.pairs.keys c.args.place c.loop-letter.letter past c.loop-letter.invariant.pairs
