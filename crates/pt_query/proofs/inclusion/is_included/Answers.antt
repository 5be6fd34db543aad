use Rattle.std.proofs.Common.{◌≡◌, ℕ, ◌^◌, ◌≤◌, refl, ap, ◌∙◌, arith}
use Rattle.pt_query.proofs.inclusion.is_included.Goals as goal

pub returns : goal.returns
returns c =
    let width : c.letters-sign-end.result ≡ 2 ^ c.args.first.now.tracks = c.letters-sign-end.ensures.value ∙ ap (λ (n : ℕ). 2 ^ n) c.tracks.ensures.tracks in
    let over = c.loop-sign-test.false in
    (λ h. λ s letter shown. c.loop-sign.invariant s (omega (arith, width, over, letter)) shown, λ all. refl)
