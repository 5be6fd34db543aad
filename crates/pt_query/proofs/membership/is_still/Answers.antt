use Rattle.std.proofs.Common.{ℕ, sym, subst}
use Rattle.pt_sets.specs.Sets.{SameSet, residual}
use Rattle.pt_sets.proofs.Counting.{SameSet-sym, SameSet-trans}
use Rattle.pt_handles.specs.Handles.{SetOfHandle}
use Rattle.pt_query.proofs.membership.is_still.Goals as goal

pub returns-then-output : goal.returns-then-output
returns-then-output g c = (λ h. absurd (cc), λ still. absurd (still.0 (c.output.ensures.0 c.if-output.true)))

pub returns : goal.returns
returns g c =
    let t = c.args.a.tracks in
    let lists = g.P.Codes.lists c.args.pass.now in
    let X = SetOfHandle lists c.args.a in
    let Y = SetOfHandle lists c.step.result in
    let R = residual X c.args.letter in
    let has = c.step.ensures in
    let tells = c.same.ensures.sets g.P.Codes.home lists has.known c.requires.known in (
      λ h. (
        λ shown. let yes = c.output.ensures.1 shown in let no = c.if-output.false in absurd (cc),
        SameSet-trans t R Y X (SameSet-sym t Y R has.set) (subst (λ (n : ℕ). SameSet n Y X) has.tracks (tells.0 h).1),
      ),
      λ still. tells.1 (has.tracks, subst (λ (n : ℕ). SameSet n Y X) (sym has.tracks) (SameSet-trans t Y R X has.set still.1)),
    )
