-- The last answers, as contracts see them.
use Rattle.std.specs.Prelude.{ℕ, ◌+◌, ◌-◌, ◌^◌, min, List}
use Rattle.pt_memo.specs.declared.answer.Answer.{Answer}

-- the answers by what was asked, the most recently used first, how many there may be, and the sum of the costs of what was built
pub record OneMemo (K V : Type 0) : Type 0 where
  pub entries : List (K × Answer V)
  pub capacity : ℕ
  pub built : ℕ

abbrev pub one_memo : {K V : Type 0} → List (K × Answer V) → ℕ → ℕ → OneMemo K V
one_memo entries capacity built = record { entries = entries; capacity = capacity; built = built }

-- a sum that stands still at the end of its type
abbrev pub counted : ℕ → ℕ → ℕ
counted built cost = min (built + cost) (2 ^ 64 - 1)
