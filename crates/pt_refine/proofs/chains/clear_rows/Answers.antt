use Rattle.std.proofs.Common.{rules, arith, ◌≡◌, ℕ, inl, inr, ◌+◌, ◌<◌, [], length, set, sym, subst, ◌∙◌, ◌≤◌}
use Rattle.std.proofs.lemmas.Bool.{cases_eq, cases_lt}
use Rattle.std.proofs.lemmas.List.{length-set}
use Rattle.pt_refine.specs.Dealing.{row_of}
use Rattle.pt_refine.proofs.Rows.{row-past, row-set_same, row-set_other}
use Rattle.pt_refine.proofs.chains.clear_rows.Goals as goal

pub loop-y-preserved : goal.loop-y-preserved
loop-y-preserved c =
    let rows = c.loop-y.rows.items in
    let y = c.loop-y.y in
    let v = c.clear.new.self in
    let y_in : y < length rows = search rules in
    record {
      count = length-set rows y v ∙ c.loop-y.invariant.count;
      empty = λ z lt. elim (cases_eq z y) [
        | inl e ↦ subst (λ (i : ℕ). row_of (set rows y v) i ≡ []) (sym e) (row-set_same rows y v y_in ∙ c.clear.ensures.items)
        | inr ne ↦ row-set_other rows y z v ne ∙ c.loop-y.invariant.empty z (omega arith)
      ];
    }

pub returns-clause-empty : goal.returns-clause-empty
returns-clause-empty c = λ y. elim (cases_lt y c.loop-y.y) [
  | inl lt ↦ c.loop-y.invariant.empty y lt
  | inr past ↦ let all : length c.loop-y.rows.items ≤ c.loop-y.y = search rules in row-past c.loop-y.rows.items y (omega arith)
]
