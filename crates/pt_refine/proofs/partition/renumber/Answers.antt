use Rattle.std.proofs.Common.{arith, ◌≡◌, ◌≢◌, ℕ, inl, inr, ◌+◌, ◌<◌, ◌≤◌, length, get_or, set, ap, sym, ◌∙◌, subst}
use Rattle.std.proofs.lemmas.Bool.{cases_eq, cases_lt}
use Rattle.std.proofs.lemmas.List.{get_or-set_same, get_or-set_other, length-set}
use Rattle.pt_refine.proofs.partition.renumber.Goals as goal

pub loop-at-preserved : goal.loop-at-preserved
loop-at-preserved c =
    let was = c.loop-at.invariant in
    let class = c.loop-at.class.items in
    let x = get_or c.args.order.now c.loop-at.at 0 in
    let n = c.args.number in
    let x_in : x < length class = let lt = c.loop-at-test.true in let top = c.requires.high in let inside = c.requires.within c.loop-at.at (omega arith) in let len = was.len in omega arith in
    record {
      len = length-set class x n ∙ was.len;
      moved = λ i low lt. elim (cases_eq (get_or c.args.order.now i 0) x) [
        | inl e ↦ subst (λ (y : ℕ). get_or (set class x n) y 0 ≡ n) (sym e) (get_or-set_same class x n 0 x_in)
        | inr ne ↦ elim (cases_lt i c.loop-at.at) [
          | inl before ↦ get_or-set_other class x (get_or c.args.order.now i 0) n 0 ne ∙ was.moved i low before
          | inr past ↦ let same : i ≡ c.loop-at.at = omega arith in absurd (ne (ap (λ j. get_or c.args.order.now j 0) same))
        ]
      ];
      stays = λ q out.
          let ne : q ≢ x = λ e. out c.loop-at.at (omega arith) (omega arith) (sym e) in
          get_or-set_other class x q n 0 ne ∙ was.stays q (λ i low lt. out i low (omega arith));
    }
