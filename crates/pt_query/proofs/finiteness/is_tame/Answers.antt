use Rattle.std.proofs.Common.{◌≡◌, inl, inr, length, eq-eqb, arith}
use Rattle.std.proofs.lemmas.Bool.{cases_lt}
use Rattle.std.proofs.lemmas.Bool.Decides.{nat_tests}
use Rattle.pt_query.proofs.Singles.{single-loops}
use Rattle.pt_query.proofs.finiteness.is_tame.Goals as goal

pub returns-in-Some : goal.returns-in-Some
returns-in-Some c =
    let at = c.in-Some.ensures.some in
    (λ h. λ cycle. c.is_single.ensures.0 h, λ tame. c.is_single.ensures.1 (tame (inr (c.in-Some.letter, at.0, at.1))))

pub returns-in-None : goal.returns-in-None
returns-in-None c =
    let n = length c.args.part.now in
    let none = c.in-None.ensures.none in (
      λ h. λ cycle. let one : n ≡ 1 = grind (arith, nat_tests) in absurd (elim cycle [ inl more ↦ omega (arith, one, more) | inr loops ↦ none loops ]),
      λ tame. elim (cases_lt 1 n) [
        | inl more ↦ absurd (none (single-loops c.args.table.now c.is_automaton.ensures c.requires.reduced _ c.requires.state (tame (inl more))))
        | inr few ↦ let one : n ≡ 1 = omega (arith, few, c.requires.some) in eq-eqb n 1 one
      ],
    )
