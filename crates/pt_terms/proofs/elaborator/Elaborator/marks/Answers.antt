use Rattle.std.proofs.Common.{◌≡◌, ◌<◌, ◌≤◌, ◌-◌, ◌+◌, ap, sym, subst, ◌∙◌, arith, length, get_or, true, false}
use Rattle.std.specs.Prelude.{replicate}
use Rattle.pt_formula.specs.Formulas.{IsFormula, children}
use Rattle.pt_terms.specs.Copies.{marked_all}
use Rattle.pt_terms.proofs.Marks.{earlier_of, marked-first, marked-node, marked-skip, marked-end, same-default}
use Rattle.pt_terms.proofs.elaborator.Elaborator.marks.Goals as goal
use Rattle.pt_terms.proofs.elaborator.Elaborator.marks.Goals.{then-index, else-index}

pub loop-k-init : goal.loop-k-init
loop-k-init c =
    let whole : IsFormula c.args.self.now.formula = subst IsFormula c.formula.ensures.value c.is_formula.ensures in
    let none : c.in_ok-marks.marks.items ≡ replicate (c.args.body + 1) false = c.in_ok-marks.ensures.ok in
    record { marked = marked-first c.args.self.now.formula (earlier_of c.args.self.now.formula whole) c.args.body c.in_ok-marks.marks.items none }

pub loop-k-preserved : goal.loop-k-preserved
loop-k-preserved c =
    let whole : IsFormula c.args.self.now.formula = subst IsFormula c.formula.ensures.value c.is_formula.ensures in
    let le : c.loop-k.k ≤ c.args.body = omega (arith, c.loop-k-test.true) in
    let size : length c.loop-k.marks.items ≡ c.args.body + 1 = c.loop-k.invariant.marked.size in
    let inside : c.args.body - c.loop-k.k < length c.loop-k.marks.items = omega (arith, size) in
    let is : get_or c.loop-k.marks.items (c.args.body - c.loop-k.k) false ≡ c.index.result.now = same-default c.loop-k.marks.items (c.args.body - c.loop-k.k) false c.index.result.now inside ∙ sym c.index.ensures in
    record {
      marked = elim c.if-index.branch [
        | then-index w ↦
            let same : c.if-index.marks.items ≡ marked_all c.loop-k.marks.items (children w.node.result.now) = ap (λ v. v.items) w.marks-is ∙ w.mark_children.ensures in
            rw (same, w.node.ensures.is) (marked-node c.args.self.now.formula (earlier_of c.args.self.now.formula whole) c.args.body c.loop-k.k c.loop-k.marks.items le c.loop-k.invariant.marked (is ∙ w.if-index.true))
        | else-index w ↦
            let same : c.if-index.marks.items ≡ c.loop-k.marks.items = ap (λ v. v.items) w.marks-is in
            rw same (marked-skip c.args.self.now.formula (earlier_of c.args.self.now.formula whole) c.args.body c.loop-k.k c.loop-k.marks.items le c.loop-k.invariant.marked (λ h. let off : false ≡ true = sym (is ∙ w.if-index.false) ∙ h in absurd cc))
      ];
    }

pub returns-clause-ok : goal.returns-clause-ok
returns-clause-ok c =
    let whole : IsFormula c.args.self.now.formula = subst IsFormula c.formula.ensures.value c.is_formula.ensures in
    marked-end c.args.self.now.formula (earlier_of c.args.self.now.formula whole) c.args.body c.loop-k.k c.loop-k.marks.items (omega (arith, c.loop-k-test.false)) c.loop-k.invariant.marked
