-- The same, of the values that the options have.
use Rattle.std.specs.Prelude.{ℕ, ◌≤◌, ◌≡◌, ◌⊎◌, List, Option, Some, None, codes, decimal}
use Rattle.std.specs.List.{Contains}
use Rattle.pt_options.specs.declared.given.Mode.{Mode}
use Rattle.pt_options.specs.declared.given.Mode.TheVariants.{Solve, Drill}
use Rattle.pt_options.specs.declared.given.Options.{Options}
use Rattle.pt_options.specs.Options.{names, Gives, IsAbsent}

-- the value of an option, if a word gives it one
abbrev pub IsValue : List (List ℕ) → List ℕ → Option (List ℕ) → Type 0
IsValue words name (Some value) = Gives words name value
IsValue words name None = IsAbsent words name

-- the values of all options
abbrev pub AreValues : List (List ℕ) → (List ℕ → Option (List ℕ)) → Type 0
AreValues words value = (name : List ℕ) → Contains names name → IsValue words name (value name)

abbrev pub IsNumber : Option (List ℕ) → ℕ → ℕ → ℕ → Type 0
IsNumber value least most n = (least ≤ n) × (n ≤ most) × (value ≡ Some (decimal n))

abbrev pub IsNumberOr : Option (List ℕ) → ℕ → ℕ → ℕ → ℕ → Type 0
IsNumberOr value least most default n = IsNumber value least most n ⊎ ((value ≡ None) × (n ≡ default))

abbrev pub IsMode : Option (List ℕ) → Mode → Type 0
IsMode value Solve = (value ≡ Some (codes "solve")) ⊎ (value ≡ None)
IsMode value Drill = value ≡ Some (codes "drill")

abbrev pub IsDrill : Option (List ℕ) → Option (List ℕ) → Mode → ℕ → ℕ → Type 0
IsDrill first second Solve seed size = (first ≡ None) × (second ≡ None) × (seed ≡ 0) × (size ≡ 0)
IsDrill first second Drill seed size = IsNumber first 0 2147483647 seed × IsNumber second 1 4096 size

pub record HaveOptions (value : List ℕ → Option (List ℕ)) (o : Options) : Type 0 where
  pub mode : IsMode (value (codes "mode")) o.mode
  pub workers : IsNumberOr (value (codes "workers")) 1 16 1 o.workers
  pub states : IsNumberOr (value (codes "states")) 1 65536 16384 o.states
  pub drill : IsDrill (value (codes "seed")) (value (codes "size")) o.mode o.seed o.size
