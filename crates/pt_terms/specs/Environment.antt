-- What the terms of a command see.
use Rattle.std.specs.Prelude.{ℕ, ◌-◌, List, [], length, drop}
use Rattle.pt_terms.specs.Names.{Symbol}
use Rattle.pt_terms.specs.Names.{Env}

-- with these live names, and no names bound
abbrev pub outermost : List Symbol → Env
outermost symbols = record { bound = []; live = symbols }

-- with the outermost n of the bound names alone
abbrev pub inside : ℕ → Env → Env
inside n env = record { bound = drop (length env.bound - n) env.bound; live = env.live }
