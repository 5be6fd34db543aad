use Rattle.std.proofs.Common.{rules, arith, ◌≡◌, ◌≢◌, ℕ, inl, inr, None, false, ap, sym, ◌∙◌}
use Rattle.std.specs.HashMap.{get}
use Rattle.std.proofs.lemmas.Grind.{common_steps}
use Rattle.std.proofs.lemmas.Bool.{cases_eq}
use Rattle.std.proofs.lemmas.Bool.Decides.{nat_tests}
use Rattle.pt_refine.specs.Refining.{same_pair}
use Rattle.pt_refine.proofs.keys.number.Goals as goal

apart-pair : (j k : ℕ × ℕ) → k ≢ j → same_pair j k ≡ false
apart-pair j k ne = elim (cases_eq j.0 k.0) [
  | inr differ ↦ grind (arith, nat_tests)
  | inl first ↦ elim (cases_eq j.1 k.1) [
    | inr differ ↦ grind (arith, nat_tests)
    | inl second ↦ absurd (ne (ap (λ (x : ℕ). (x, k.1)) (sym first) ∙ ap (λ (y : ℕ). (j.0, y)) (sym second)))
  ]
]

pub returns : goal.returns
returns c =
    let puts = c.in_ok-insert.ensures in
    let none : get same_pair c.args.known.now c.args.pair ≡ None = search rules in
    record {
      here = puts.updates.1;
      others = λ k ne. puts.updates.2 k (apart-pair c.args.pair k ne);
      step = inr (none, search rules, grind (arith, common_steps));
    }
