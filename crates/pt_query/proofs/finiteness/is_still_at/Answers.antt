use Rattle.std.proofs.Common.{ℕ, sym, ◌∙◌, subst}
use Rattle.pt_sets.specs.Sets.{SameSet, residual}
use Rattle.pt_sets.specs.Automata.{SetOfState, next_of}
use Rattle.pt_sets.proofs.Counting.{SameSet-sym, SameSet-trans}
use Rattle.pt_sets.proofs.Running.{state-sign}
use Rattle.pt_query.proofs.Singles.{next-residual}
use Rattle.pt_query.proofs.finiteness.is_still_at.Goals as goal

pub returns-then-output : goal.returns-then-output
returns-then-output c =
    let shown = state-sign c.args.table.now c.is_automaton.ensures c.args.state c.args.letter c.requires.state c.requires.letter in
    (λ h. absurd (cc), λ still. absurd (still.0 (shown.1 (sym c.output.ensures ∙ c.if-output.true))))

pub returns : goal.returns
returns c =
    let a = c.args.table.now in
    let q = c.args.state in
    let l = c.args.letter in
    let valid = c.is_automaton.ensures in
    let shown = state-sign a valid q l c.requires.state c.requires.letter in
    let X = SetOfState a q in
    let R = residual X l in
    let next = next-residual a valid q l c.requires.state c.requires.letter in (
      λ h. (
        λ in_X. let yes = c.output.ensures ∙ shown.0 in_X in let no = c.if-output.false in absurd (cc),
        SameSet-sym a.tracks X R (subst (λ (r : ℕ). SameSet a.tracks (SetOfState a r) R) (sym c.next.ensures ∙ c.is_same.ensures.0 h) next),
      ),
      λ still. c.is_same.ensures.1
          (c.next.ensures ∙ c.requires.reduced (next_of a q l) q (valid.closed q l c.requires.state c.requires.letter) c.requires.state (SameSet-trans a.tracks (SetOfState a (next_of a q l)) R X next still.1)),
    )
