use Rattle.std.proofs.Common.{◌≡◌, ℕ, ◌<◌, ◌^◌, true, false, refl, rules, arith, below_more}
use Rattle.pt_handles.specs.Handles.{SetOfHandle, state_of}
use Rattle.pt_query.specs.Steps.{IsStill}
use Rattle.pt_query.proofs.Still.{still-empty, empty-still}
use Rattle.pt_query.proofs.Tracks.{known-tracks}
use Rattle.pt_query.proofs.membership.is_empty.Goals as goal

pub letters-letter-end-requires : goal.letters-letter-end-requires
letters-letter-end-requires g c = known-tracks g.P.Codes.home (g.P.Codes.lists c.args.pass.now) c.args.a.tracks (state_of c.args.a) c.requires

pub returns-then-not-is_still : goal.returns-then-not-is_still
returns-then-not-is_still g c =
    let X = SetOfHandle (g.P.Codes.lists c.args.pass.now) c.args.a in
    let no : c.is_still.result ≡ false = search rules in
    (λ h. absurd (cc), λ none. let yes = c.is_still.ensures.1 (empty-still c.args.a.tracks X none c.loop-letter.letter) in absurd (cc))

pub loop-letter-preserved : goal.loop-letter-preserved
loop-letter-preserved g c =
    let yes : c.is_still.result ≡ true = search rules in
    below_more _ _ c.loop-letter.invariant (c.is_still.ensures.0 yes)

pub returns : goal.returns
returns g c =
    let X = SetOfHandle (g.P.Codes.lists c.args.pass.now) c.args.a in
    let past = c.loop-letter-test.false in
    let all : (r : ℕ) → r < 2 ^ c.args.a.tracks → IsStill c.args.a.tracks X r = λ r h. c.loop-letter.invariant r (omega (arith, c.letters-letter-end.ensures.value)) in
    (λ h. still-empty c.args.a.tracks X all, λ none. refl)
