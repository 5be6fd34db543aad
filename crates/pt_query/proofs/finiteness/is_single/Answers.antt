use Rattle.std.proofs.Common.{ℕ, ◌^◌, inl, inr, refl, ap, sym, subst, arith, ◌∙◌}
use Rattle.std.proofs.lemmas.Bool.{cases_eq}
use Rattle.pt_query.specs.Tame.{IsOff}
use Rattle.pt_query.proofs.Singles.{loop-single, single-off}
use Rattle.pt_query.proofs.finiteness.is_single.Goals.{else-letter-sign-via-then-letter-sign+else-not-is_off, else-letter-sign-via-else-letter-sign}
use Rattle.pt_query.proofs.finiteness.is_single.Goals as goal

pub returns-then-not-is_off : goal.returns-then-not-is_off
returns-then-not-is_off c =
    let no = c.if-not-is_off.true in
    let past = c.loop-letter-test.true in
    let count = c.letters-letter-end.ensures.value ∙ ap (λ (n : ℕ). 2 ^ n) c.tracks.ensures.tracks in (
      λ h. absurd (cc),
      λ single.
          let yes = c.is_off.ensures.1
          (single-off c.args.table.now c.tracks.ensures.valid c.args.state c.args.sign c.requires.state c.requires.sign c.requires.loop_ single c.loop-letter.letter (omega (arith, past, count)) c.if-letter-sign.true) in
          absurd (cc),
    )

pub loop-letter-preserved : goal.loop-letter-preserved
loop-letter-preserved c m h other =
    elim (cases_eq m c.loop-letter.letter) [
      | inr earlier ↦ c.loop-letter.invariant m (omega (arith, h, earlier)) other
      | inl same ↦
          subst (λ (k : ℕ). IsOff c.args.table.now c.args.state k) (sym same)
          (elim c.else-letter-sign.branch [
            | else-letter-sign-via-then-letter-sign+else-not-is_off w ↦ w.is_off.ensures.0 w.if-not-is_off.false
            | else-letter-sign-via-else-letter-sign w ↦ absurd (other (same ∙ w.if-letter-sign.false))
          ])
    ]

pub returns : goal.returns
returns c =
    let past = c.loop-letter-test.false in
    let count = c.letters-letter-end.ensures.value ∙ ap (λ (n : ℕ). 2 ^ n) c.tracks.ensures.tracks in (
      λ h. loop-single c.args.table.now c.tracks.ensures.valid c.args.state c.args.sign c.requires.state c.requires.sign c.requires.loop_ (λ l is_l other. c.loop-letter.invariant l (omega (arith, past, count, is_l)) other),
      λ single. refl,
    )
