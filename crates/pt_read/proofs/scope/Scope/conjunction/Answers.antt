use Rattle.std.proofs.Common.{◌≡◌, ◌-◌, suc, length, List, [], ◌∷◌, Some, slice_get, map, ap, sym, ◌∙◌, arith}
use Rattle.pt_read.specs.declared.scope.Assertion.{Assertion}
use Rattle.pt_read.specs.Scope.{last_conjunction}
use Rattle.pt_formula.specs.Formulas.{IsFormula}
use Rattle.pt_read.specs.Kept.{shown, shown_assertion}
use Rattle.pt_read.proofs.Levels.{last-conjunction}
use Rattle.pt_read.proofs.Elaborating.{scope-conjunction}
use Rattle.pt_read.proofs.scope.Scope.conjunction.Goals as goal

-- the last of a list is behind all but one
last : (xs : List Assertion) (x : Assertion) → slice_get xs (length xs - 1) ≡ Some x → last_conjunction 0 (map shown_assertion xs) ≡ x.conjunction
last [] x e = absurd cc
last (y ∷ xs) x e =
    let many : length (y ∷ xs) ≡ suc (length xs) = omega arith in
    let here : length (y ∷ xs) - 1 ≡ length xs = omega arith in
    last-conjunction 0 (length xs) (y ∷ xs) x many (ap (slice_get (y ∷ xs)) (sym here) ∙ e)

pub returns-in-Some-clause-value : goal.returns-in-Some-clause-value
returns-in-Some-clause-value c = rw (← c.self.view_is) (sym (last c.self.inside.assertions.items c.in-Some.last.now (rw (← c.deref.ensures.value) (sym c.in-Some.ensures.value))))

pub returns-in-Some-clause-node : goal.returns-in-Some-clause-node
returns-in-Some-clause-node c = rw (← c.self.view_is) (
    let whole : IsFormula c.self.inside.work.formula = rw c.formula.ensures.value at c.is_formula.ensures in
    let lt = scope-conjunction (shown c.self.inside) c.self.invariant.sound whole in
    let e = last c.self.inside.assertions.items c.in-Some.last.now (rw (← c.deref.ensures.value) (sym c.in-Some.ensures.value)) in
    omega (arith, lt, e))
