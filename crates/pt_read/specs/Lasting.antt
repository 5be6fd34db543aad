-- What is kept of a scope between two commands.
use Rattle.std.specs.Prelude.{ℕ, ◌<◌, ◌≤◌, ◌⊎◌, ◌≡◌, nat_le, List, [], ◌∷◌, length, filter, ⊤}
use Rattle.std.specs.List.{AllByRecursion}
use Rattle.pt_base.specs.Elements.{ContainsByRecursion, AnyByRecursion}
use Rattle.pt_formula.specs.Forms.{IsIncreasing}
use Rattle.pt_terms.specs.declared.meaning.Constant.{Constant}
use Rattle.pt_read.specs.Scope.{State, Assertion}
use Rattle.pt_terms.specs.Names.{Symbol, Use, Constant_of, Defined, constants_in}
use Rattle.pt_terms.specs.Sorts.{HasSort, HaveSorts}
use Rattle.pt_read.specs.Fits.{IsMeaning, free_of}

-- the variable of a constant of this level or a lower one
abbrev pub IsConstantUpTo : ℕ → List Symbol → ℕ → Type 0
IsConstantUpTo level symbols v = AnyByRecursion (λ (c : Constant). c.variable ≡ v) (constants_in (filter (λ (s : Symbol). nat_le s.level level) symbols))

-- a constant's variable has its sort; the parameters of a definition increase and have their sorts, and what else is free in it are
-- constants that last as long
abbrev pub IsUseSound : State → ℕ → Use → Type 0
IsUseSound s level (Constant_of v t) = HasSort s.given v t
IsUseSound s level (Defined ps ss m) = (IsIncreasing ps × HaveSorts s.given ps ss) × IsMeaning s m × AllByRecursion (λ v. ContainsByRecursion v ps ⊎ IsConstantUpTo level s.symbols v) (free_of s m)

-- later assertions are of the same level or of higher ones
abbrev pub AreInOrder : List Assertion → Type 0
AreInOrder [] = ⊤
AreInOrder (a ∷ more) = AllByRecursion (λ (b : Assertion). a.level ≤ b.level) more × AreInOrder more

-- what is kept between two commands, beside the laws of the formula
pub record IsSound (s : State) : Type 0 where
  pub symbols : AllByRecursion (λ (x : Symbol). (x.level ≤ s.depth) × IsUseSound s x.level x.stands_for) s.symbols
  pub order : AreInOrder s.assertions
  pub assertions : AllByRecursion (λ (a : Assertion). (a.level ≤ s.depth) × (a.term < length s.formula) × (a.conjunction < length s.formula)) s.assertions
