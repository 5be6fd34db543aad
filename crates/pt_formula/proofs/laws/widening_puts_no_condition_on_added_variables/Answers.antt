use Rattle.std.proofs.Common.{◌≡◌, ◌↔◌, ℕ, List, length, map}
use Rattle.std.proofs.lemmas.List.{length-map}
use Rattle.std.specs.Prelude.{ℤ}
use Rattle.pt_formula.specs.Truth.{Tree, Holds, Solutions, Widened, free_variables, valuation}
use Rattle.pt_formula.proofs.TruthLaws.{same_truth, read_back}
use Rattle.pt_formula.proofs.laws.widening_puts_no_condition_on_added_variables.Goals as goal

holds : (t : Tree) (outer : List ℕ) (z : List ℤ) → length z ≡ length outer → Widened outer (free_variables t) (Solutions t) z ↔ Holds t (valuation outer z)
holds t outer z e =
    let vs : List ℕ = free_variables t in
    let f : ℕ → ℤ = valuation outer z in
    let same : Holds t (valuation vs (map f vs)) ↔ Holds t f = same_truth t (valuation vs (map f vs)) f (read_back f vs) in
    (λ w. same.0 w.1.1, λ h. (e, (length-map vs f, same.1 h)))

pub returns-clause-holds : goal.returns-clause-holds
returns-clause-holds c = holds

pub returns-clause-added : goal.returns-clause-added
returns-clause-added c = λ t outer y z d e same.
    let p = holds t outer y d in
    let q = holds t outer z e in
    let r = same_truth t (valuation outer y) (valuation outer z) same in
    (λ w. q.1 (r.0 (p.0 w)), λ w. p.1 (r.1 (q.0 w)))
