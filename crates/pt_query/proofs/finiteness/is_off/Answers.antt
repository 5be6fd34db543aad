use Rattle.std.proofs.Common.{ℕ, sym, ◌∙◌, subst}
use Rattle.pt_sets.specs.Automata.{SetOfState, next_of}
use Rattle.pt_sets.proofs.Running.{state-sign}
use Rattle.pt_query.specs.Queries.{IsEmptySet}
use Rattle.pt_query.specs.Tame.{IsEmptyState}
use Rattle.pt_query.proofs.finiteness.is_off.Goals as goal

pub returns-then-output : goal.returns-then-output
returns-then-output c =
    let shown = state-sign c.args.table.now c.is_automaton.ensures c.args.state c.args.letter c.requires.state c.requires.letter in
    (λ h. absurd (cc), λ off. absurd (off.0 (shown.1 (sym c.output.ensures ∙ c.if-output.true))))

pub returns-in-Some : goal.returns-in-Some
returns-in-Some c =
    let a = c.args.table.now in
    let q = c.args.state in
    let l = c.args.letter in
    let e = c.in-Some.none in
    let valid = c.is_automaton.ensures in
    let shown = state-sign a valid q l c.requires.state c.requires.letter in
    let empty = subst (IsEmptyState a) c.in-Some.is c.requires.empty in (
      λ h. (
        λ in_X. let yes = c.output.ensures ∙ shown.0 in_X in let no = c.if-output.false in absurd (cc),
        subst (λ (r : ℕ). IsEmptySet a.tracks (SetOfState a r)) (sym (c.is_same.ensures.0 h) ∙ c.next.ensures) empty.1,
      ),
      λ off. c.is_same.ensures.1
          (c.next.ensures ∙ c.requires.reduced (next_of a q l) e (valid.closed q l c.requires.state c.requires.letter) empty.0 (record { agrees = λ z len. (λ h. absurd (off.1 z len h), λ h. absurd (empty.1 z len h)) })),
    )

pub returns-in-None : goal.returns-in-None
returns-in-None c =
    let a = c.args.table.now in
    let q = c.args.state in
    let l = c.args.letter in
    let none = subst (IsEmptyState a) c.in-None.is c.requires.empty in
    (λ h. absurd (cc), λ off. absurd (none (next_of a q l) (c.is_automaton.ensures.closed q l c.requires.state c.requires.letter) off.1))
