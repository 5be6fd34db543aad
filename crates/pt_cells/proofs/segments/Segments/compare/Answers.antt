use Rattle.std.proofs.Common.{◌≡◌, ◌∙◌, ℕ, List, Option, Some, ap, sym, subst}
use Rattle.pt_cells.specs.Places.{seen_of, AreNotesOf, name_from}
use Rattle.pt_cells.proofs.segments.Segments.compare.Goals as goal

pub compare-requires-clause-one : goal.compare-requires-clause-one
compare-requires-clause-one c =
    subst (λ (names : List ℕ). AreNotesOf (seen_of c.one.inside.fields) names) (sym c.self.view_is)
    (subst (λ (seen : List (ℕ × Option (List ℕ))). AreNotesOf seen c.args.self.now) (sym c.one.view_is) c.requires.one)

pub compare-requires-clause-other : goal.compare-requires-clause-other
compare-requires-clause-other c =
    subst (λ (names : List ℕ). AreNotesOf (seen_of c.other.inside.fields) names) (sym c.self.view_is)
    (subst (λ (seen : List (ℕ × Option (List ℕ))). AreNotesOf seen c.args.self.now) (sym c.other.view_is) c.requires.other)

pub returns-clause-same : goal.returns-clause-same
returns-clause-same c = (ap seen_of c.compare.ensures.same.0 ∙ c.one.view_is, ap seen_of c.compare.ensures.same.1 ∙ c.other.view_is)

pub returns-clause-agree : goal.returns-clause-agree
returns-clause-agree c = λ p m n h k.
    c.compare.ensures.agree p m n
    (subst (λ (seen : List (ℕ × Option (List ℕ))). name_from 1024 seen p ≡ Some m) (sym c.one.view_is) h)
    (subst (λ (seen : List (ℕ × Option (List ℕ))). name_from 1024 seen p ≡ Some n) (sym c.other.view_is) k)
