use Rattle.std.proofs.Common.{rules, arith, ◌≡◌, ℕ, List, [], ◌∷◌, ◌++◌, length, get_or, sym, ap, ◌∙◌, subst}
use Rattle.pt_refine.specs.Dealing.{row_of, AreRowsOf}
use Rattle.pt_refine.proofs.Rows.{rows-none, rows-more}
use Rattle.pt_refine.proofs.halves.rows_of.Goals as goal

pub loop-state-init : goal.loop-state-init
loop-state-init c = record {
  count = c.in_ok-rows.ensures.count;
  rows = rows-none (λ q. get_or c.args.classes.now.numbers.items q 0) c.in_ok-rows.rows.items c.in_ok-rows.ensures.empty;
}

pub loop-state-preserved : goal.loop-state-preserved
loop-state-preserved c =
    let was = c.loop-state.invariant in
    let state = c.loop-state.state in
    let y_is = ap (λ (xs : List ℕ). get_or xs state 0) (sym c.deref-class-items.ensures.value) in
    record {
      count = c.add.ensures.count ∙ was.count;
      rows = rows-more was.rows (get_or c.deref-class-items.result.now state 0) c.add.new.rows.items y_is c.in_ok-add.ensures.added c.in_ok-add.ensures.others;
    }

pub returns-clause-rows : goal.returns-clause-rows
returns-clause-rows c =
    let numbers = c.args.classes.now.numbers.items in
    let size = ap length c.deref-class-items.ensures.value in
    let all : c.loop-state.state ≡ length numbers = search rules in
    subst (λ (n : ℕ). AreRowsOf n (λ q. get_or numbers q 0) c.loop-state.rows.items) all c.loop-state.invariant.rows
