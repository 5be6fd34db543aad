use Rattle.std.proofs.Common.{ℕ, ◌^◌, ap, ◌∙◌, arith}
use Rattle.pt_query.proofs.finiteness.loop_letter.Goals as goal

pub returns-clause-none : goal.returns-clause-none
returns-clause-none c (l, is_l, is) =
    let past = c.loop-letter-test.false in
    let count = c.letters-letter-end.ensures.value ∙ ap (λ (n : ℕ). 2 ^ n) c.tracks.ensures.tracks in
    c.loop-letter.invariant l (omega (arith, count, past, is_l)) is
