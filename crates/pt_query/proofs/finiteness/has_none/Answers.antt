use Rattle.std.proofs.Common.{◌≡◌, ℕ, ◌^◌, ◌<◌, true, false, refl, arith, rules, ◌∙◌, ap, below_more}
use Rattle.pt_sets.specs.Automata.{SetOfState}
use Rattle.pt_query.specs.Steps.{IsStill}
use Rattle.pt_query.proofs.Still.{still-empty, empty-still}
use Rattle.pt_query.proofs.finiteness.has_none.Goals as goal

pub returns-then-not-is_still_at : goal.returns-then-not-is_still_at
returns-then-not-is_still_at c =
    let X = SetOfState c.args.table.now c.args.state in
    let no : c.is_still_at.result ≡ false = search rules in
    (λ h. absurd (cc), λ none. let yes = c.is_still_at.ensures.1 (empty-still c.args.table.now.tracks X none c.loop-letter.letter) in absurd (cc))

pub loop-letter-preserved : goal.loop-letter-preserved
loop-letter-preserved c =
    let yes : c.is_still_at.result ≡ true = search rules in
    below_more _ _ c.loop-letter.invariant (c.is_still_at.ensures.0 yes)

pub returns : goal.returns
returns c =
    let t = c.args.table.now.tracks in
    let X = SetOfState c.args.table.now c.args.state in
    let past = c.loop-letter-test.false in
    let count = c.letters-letter-end.ensures.value ∙ ap (λ (n : ℕ). 2 ^ n) c.tracks.ensures.tracks in
    let all : (r : ℕ) → r < 2 ^ t → IsStill t X r = λ r h. c.loop-letter.invariant r (omega (arith, count)) in
    (λ h. still-empty t X all, λ none. refl)
