-- What is kept of a scope, and what contracts see of it.
use Rattle.std.specs.Prelude.{◌≡◌, ◌≤◌, List, [], ◌∷◌, map, ⊤}
use Rattle.std.specs.List.{AllByRecursion}
use Rattle.pt_read.specs.declared.scope.Scope.TheInside.{Inside}
use Rattle.pt_read.specs.declared.scope.Assertion as assertion_kept
use Rattle.pt_read.specs.Scope.{State, Assertion}
use Rattle.pt_terms.specs.Names.{constants_in}
use Rattle.pt_read.specs.Lasting.{IsSound}

abbrev pub shown_assertion : assertion_kept.Assertion → Assertion
shown_assertion a = record { term = a.term; conjunction = a.conjunction; level = a.level }

abbrev pub shown : Inside → State
shown s = record { formula = s.work.formula; given = s.work.given; depth = s.depth; symbols = s.symbols; assertions = map shown_assertion s.assertions.items }

-- the constants that are kept are those of the symbols
pub record IsKept (s : Inside) : Type 0 where
  pub constants : s.constants.items ≡ constants_in s.symbols
  pub sound : IsSound (shown s)

-- later assertions are of the same level or of higher ones
abbrev pub AreOrdered : List assertion_kept.Assertion → Type 0
AreOrdered [] = ⊤
AreOrdered (a ∷ more) = AllByRecursion (λ (b : assertion_kept.Assertion). a.level ≤ b.level) more × AreOrdered more
